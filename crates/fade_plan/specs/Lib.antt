pub mod Sheets
pub mod Curves
pub mod Points
pub use Rattle.cue_sheet.specs.Digits
pub use Rattle.cue_sheet.specs.Lines
pub use Rattle.cue_sheet.specs.Places
pub use Rattle.frame_header.specs.Fields
