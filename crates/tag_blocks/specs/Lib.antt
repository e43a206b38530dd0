pub mod Blocks
pub mod UndoText
pub mod Items
pub mod Tags
pub mod UndoItems
pub mod Laws
