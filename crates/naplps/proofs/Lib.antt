-- The laws, for proofs that cite them.
pub use Rattle.nap_list.proofs.PublicLaws as ListLaws
pub use Rattle.nap_reader.proofs.PublicLaws as ReadingLaws
pub use Rattle.nap_canon.proofs.PublicLaws as CanonicalLaws
pub use Rattle.nap_make.proofs.PublicLaws as LineLaws
