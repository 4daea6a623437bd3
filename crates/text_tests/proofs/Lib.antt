pub mod OneEventWords
