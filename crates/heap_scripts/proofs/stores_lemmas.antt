pub mod OpenLemmas
