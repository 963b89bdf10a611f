-- The lemmas that proofs of the crates above may cite: what holds of a caller after a step, after a move, and at first.
-- `moved_keeps` is given the laws `PutApart` and `PutAddresses` of `tx_model`.
pub use Rattle.ring_core.proofs.Kept.{Keeps}
pub use Rattle.ring_core.proofs.KeptAll.{absorbed_keeps}
pub use Rattle.ring_core.proofs.MovesKept.{moved_keeps, opening_sound}
