-- How many frames a file may have.
pub use Rattle.frame_header.specs.Limits.{most_frames}
