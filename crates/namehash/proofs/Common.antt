-- Names of other crates, and of this one's definitions, as the proofs of this crate take them.
pub use Rattle.namehash.specs.Rjenkins.{absorb_block, absorb_last, hash_of, start}
pub use Rattle.namehash.specs.declared.state.State.{State}
pub use Rattle.std.proofs.Common.{List, ap, arith, drop, fold, length, length-drop, refl, suc, sym, take, ℕ, ◌*◌, ◌+◌, ◌/◌, ◌<◌, ◌∙◌, ◌≡◌, ◌≤◌}
pub use Rattle.std.proofs.lemmas.List.{drop-drop}
