pub mod ArgumentTextLemmas
