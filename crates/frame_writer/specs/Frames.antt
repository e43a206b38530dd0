-- Frames with the main data of all of them laid into
-- their areas (ISO/IEC 11172-3 and 13818-3, 2.4.1).
use Rattle.std.specs.Prelude.{drop, length, List, map, min, take, ℕ, [], ◌++◌, ◌+◌, ◌-◌, ◌<◌, ◌∷◌}
use Rattle.std.specs.Prelude.{◌≡◌, ◌≤◌}
use Rattle.frame_header.specs.Fields.{ClassFields, HeaderFields, IsHeader}
use Rattle.frame_header.specs.Tables.{area_of, class_of, window_of}
use Rattle.frame_writer.specs.Laid.{AreAreasLaid, areas_after_laying, FrameData, laid_data}
use Rattle.frame_writer.specs.Laid.{WaitingAreas}
use Rattle.side_info.specs.{Frame.frame_front_bytes, FrameFields.FrameFields, Side.SideFits}
use Rattle.side_info.specs.declared.side.Side.{Side}

-- the length in bytes of a frame's area
abbrev pub frame_area : FrameFields → ℕ
frame_area k = area_of (class_of k.header) k.header.slot k.header.protected

-- the length in bytes of the areas of all these frames
abbrev pub areas_length : List FrameFields → ℕ
areas_length [] = 0
areas_length (k ∷ ks) = frame_area k + areas_length ks

-- the area of the first frame
abbrev pub first_area : List FrameFields → ℕ
first_area [] = 0
first_area (k ∷ ks) = frame_area k

-- frames with these bytes as their areas, cut in order
abbrev pub framed_bytes : List FrameFields → List ℕ → List ℕ
framed_bytes [] area_bytes = []
framed_bytes (k ∷ ks) area_bytes = frame_front_bytes k.header k.side
    ++ (take (frame_area k) area_bytes ++ framed_bytes ks (drop (frame_area k) area_bytes))

-- a frame and its main data
pub record Frame : Type 0 where
  pub kept : FrameFields
  pub payload : List ℕ

-- the frame of a header, side information and main data
abbrev pub frame_with_data : HeaderFields → Side → List ℕ → Frame
frame_with_data h s payload = record { kept = record { header = h; side = s }; payload = payload }

-- the main data of a frame, to be laid
abbrev pub frame_data : Frame → FrameData
frame_data f =
    record { payload = f.payload; begin = f.kept.side.main_data_begin; area = frame_area f.kept }

-- the headers and side information of frames
abbrev pub fields_of_frames : List Frame → List FrameFields
fields_of_frames fs = map (λ f. f.kept) fs

-- the main data of frames, to be laid
abbrev pub all_frame_data : List Frame → List FrameData
all_frame_data fs = map frame_data fs

-- the main data of a frame, which begin where its main_data_begin says, end within its own area
abbrev pub EndsInArea : Frame → Type 0
EndsInArea f = length f.payload ≤ f.kept.side.main_data_begin + frame_area f.kept

-- the bytes of these frames
abbrev pub bytes_of_frames : List Frame → List ℕ
bytes_of_frames fs = framed_bytes (fields_of_frames fs) (laid_data (all_frame_data fs))

-- ---- frames that wait

-- frames of a class that wait, and what waits of their areas
pub record WaitingFrames : Type 0 where
  pub class : ClassFields
  pub kept : List FrameFields
  pub waiting : WaitingAreas

-- the bytes of the frames that wait
abbrev pub held_bytes : WaitingFrames → List ℕ
held_bytes held = framed_bytes held.kept held.waiting.bytes

-- what waits of the areas, with the area of one more frame
abbrev pub areas_with_frame : WaitingAreas → Frame → List ℕ
areas_with_frame w f =
    areas_after_laying w f.payload f.kept.side.main_data_begin (frame_area f.kept)

-- the bytes of a frame whose area is the first of these
abbrev pub first_bytes : FrameFields → List ℕ → List ℕ
first_bytes k bytes = frame_front_bytes k.header k.side ++ take (frame_area k) bytes

-- frames of one class, whose side information fits it
abbrev pub AreFieldsOfClass : ClassFields → List FrameFields → Type 0
AreFieldsOfClass c [] = Unit {0}
AreFieldsOfClass c (k ∷ ks) =
    IsHeader k.header × (class_of k.header ≡ c) × SideFits c k.side × AreFieldsOfClass c ks

-- how many bytes before its own area the main data of the next frame may begin
abbrev pub reach_of : WaitingFrames → ℕ
reach_of held = min (window_of held.class.version) held.waiting.free

-- a frame waits, and no later main data can reach the area of the first that does
pub record IsNextSettled (held : WaitingFrames) : Type 0 where
  pub some : 0 < length held.kept
  pub behind : first_area held.kept + min (window_of held.class.version) held.waiting.free
      ≤ length held.waiting.bytes

-- how many bytes before its own area the main data of
-- the next frame may begin, if this frame was given last
abbrev pub reach_after_frame : ClassFields → Frame → ℕ
reach_after_frame c f =
    min (window_of c.version) (f.kept.side.main_data_begin + frame_area f.kept - length f.payload)

-- the first of these frames were taken, with these bytes as their areas, and the others wait
pub record AreFramesWritten (taken : List ℕ) (held : WaitingFrames) (fs : List Frame) : Type 0 where
  pub done : List FrameFields
  pub given : List ℕ
  pub all : done ++ held.kept ≡ fields_of_frames fs
  pub long : length given ≡ areas_length done
  pub laid : AreAreasLaid given held.waiting (all_frame_data fs)
  pub bytes : taken ≡ framed_bytes done given
