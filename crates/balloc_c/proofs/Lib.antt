mod AllBlocks
mod BarLemmas
mod CodesLemmas
mod Enough
mod Going
mod LaidLemmas
mod LeaveLemmas
mod LendingLemmas
mod MadeCalls
mod MemoryCalls
mod Numbers
mod OpenLemmas
mod Packing
pub mod Seal
mod Slots
mod Tending
mod ToldLemmas
mod Values
