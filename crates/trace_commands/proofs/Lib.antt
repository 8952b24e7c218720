mod DrivenLemmas
mod RunLemmas
mod SerialLemmas
mod CensusLemmas
mod CachedLemmas
mod PipeLemmas
