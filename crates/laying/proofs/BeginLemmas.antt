-- The bounds of main_data_begin, which has nine bits in MPEG-1, and eight in MPEG-2 and MPEG-2.5.
use Rattle.std.proofs.Common.{arith, slice_index, ℕ, ◌<◌, ◌^◌, ◌≤◌}
use Rattle.frame_header.specs.{Fields.ClassFields, Tables.window_of}
use Rattle.frame_header.specs.declared.version.Version.{Version}
use Rattle.side_info.specs.{Side.{front_widths_of, SideFits}, declared.side.Side.Side}

begin_within : (version : Version) (channels : ℕ) {begin : ℕ}
    → begin < 2 ^ slice_index (front_widths_of version channels) 0 → begin ≤ window_of version
begin_within version channels fits = grind arith

-- main_data_begin is at most the window
pub begin-near : {c : ClassFields} {s : Side} → SideFits c s
    → s.main_data_begin ≤ window_of c.version
begin-near {c} {s} fits = begin_within c.version c.channels fits.main_data_begin
