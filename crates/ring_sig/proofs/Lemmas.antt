-- The lemmas that proofs of the crates above may cite.
pub use Rattle.ring_sig.proofs.Sets.{common_address, sets_meet, common_address_meet, no_common_address, empty_signature, gains_last, signature_exists}
pub use Rattle.ring_sig.proofs.Shared.{meets_from_shares}
pub use Rattle.ring_sig.proofs.Words.{words_at_most}
