-- Names of other crates, and of this one's definitions, as the proofs of this crate take them.
pub use Rattle.inboxes.specs.Inbox.{TakesFront}
pub use Rattle.inboxes.specs.Inboxes.{Inboxes, first_waiting, waiting_at, with_last, with_waiting}
pub use Rattle.inboxes.specs.Pins.{is_for, is_grant_in, is_on}
pub use Rattle.mds_types.specs.declared.ids.Rank.{Rank}
pub use Rattle.mds_types.specs.declared.requests.Request.{Request}
pub use Rattle.std.proofs.Common.{IfSome, List, None, Option, Some, [], ap, arith, drop, get_or, get_or-set_same, length, length-set, not, rules, set, set-set, subst, sym, ℕ, ◌++◌, ◌<◌, ◌∙◌, ◌∷◌, ◌≡◌, ◌≢◌}
pub use Rattle.std.proofs.lemmas.Fn.{filter_same}
pub use Rattle.std.proofs.lemmas.List.{get_or-set_other, set-get_or}
pub use Rattle.std.specs.Prelude.{replicate}
