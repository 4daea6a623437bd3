pub mod ShownWords
pub mod SomeTiles
pub mod Pieces
