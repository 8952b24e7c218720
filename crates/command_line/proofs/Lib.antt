mod EdgeLemmas
mod WordLemmas
mod ParserLemmas
mod CommandLemmas
