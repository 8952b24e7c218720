pub mod hazard_lemmas
pub mod large_lemmas
pub mod partial_lemmas
pub mod stack_lemmas
pub mod superblock_lemmas
