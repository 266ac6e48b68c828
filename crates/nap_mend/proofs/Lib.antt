pub mod SearchLemmas
pub mod LeadLemmas
pub mod CodedLemmas
pub mod PartLemmas
pub mod CountLemmas
pub mod MendLemmas
pub mod PublicLaws
