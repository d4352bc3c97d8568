pub mod CommandLemmas
pub mod TextLemmas
pub mod FlipLemmas
