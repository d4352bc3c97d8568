pub mod CreatingLemmas
