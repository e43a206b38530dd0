-- The line about a stream that was made and packed.
use Rattle.std.specs.Prelude.{codes, decimal, List, ℕ, ◌++◌}
use Rattle.drill.specs.declared.summary.Summary.{Summary}

-- the frames of the stream, its length in bytes, the
-- length of the packed file, and the lead-ins in it
unfoldable pub summary_text : Summary → List ℕ
summary_text s =
    decimal s.frames
    ++ (codes " frames, " ++ (decimal s.bytes_in ++ (codes " bytes in, " ++ (decimal s.bytes_out
    ++ (codes " bytes out, " ++ (decimal s.lead_ins ++ codes " lead-ins\n"))))))
