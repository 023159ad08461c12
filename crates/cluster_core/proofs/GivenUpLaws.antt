-- A book stays sound where a request is given up.
use Rattle.cluster_core.proofs.Common.{AreSetAside, AreSettled, Core, Entry, Inboxes, IsSound, IsSoundBehind, List, Opening, Pin, Rank, Request, Table, [], ap, length, length-set, subst, sym, with_waiting, without_request, ◌++◌, ◌∙◌, ◌∷◌, ◌≡◌}
use Rattle.cluster_core.specs.GivenUp.{GivesUpIn, with_waiters}

-- what waits and what is granted has no part in that, but that there is an inbox for each rank
sound_beside : (opening : Opening) (history : List Entry) (core : Core) (inboxes : Inboxes) (pins : List Pin) → length inboxes ≡ length core.state.inboxes → IsSound opening history core → IsSound opening history (with_waiters core inboxes pins)
sound_beside opening history core inboxes pins count sound = record {
  legal = sound.legal;
  replayed = sound.replayed;
  tree = sound.tree;
  subtrees = sound.subtrees;
  cached = record { unsaved = sound.cached.unsaved; places = sound.cached.places; held = sound.cached.held; orders = sound.cached.orders };
  exported = record { placed = sound.exported.placed; ranked = sound.exported.ranked; there = sound.exported.there; unbegun = sound.exported.unbegun };
  ranks = record { some = sound.ranks.some; inboxes = count ∙ sound.ranks.inboxes; caches = sound.ranks.caches };
  supplied = sound.supplied;
  kept = sound.kept;
}

settled_beside : (core : Core) (inboxes : Inboxes) (pins : List Pin) (ranks : List Rank) → AreSettled core.state ranks → AreSettled (with_waiters core inboxes pins).state ranks
settled_beside core inboxes pins ranks settled rank has leaf to away = settled rank has leaf to (record { live = away.live; mine = away.mine; place = away.place; pin = away.pin; other = away.other; there = away.there })

pub given_sound : (opening : Opening) (history : List Entry) (old new : Core) (rank : Rank) (waiting : List Request) → GivesUpIn old new rank waiting → IsSound opening history old → IsSound opening history new
given_sound opening history old new rank [] given sound = subst (IsSound opening history) (sym given) sound
given_sound opening history old new rank (request ∷ rest) given sound =
    subst (IsSound opening history) (sym given) (sound_beside opening history old (with_waiting old.state.inboxes rank rest) (without_request old.state.pins request) (length-set old.state.inboxes rank.0 rest) sound)

pub given_settled : (old new : Core) (rank : Rank) (waiting : List Request) (ranks : List Rank) → GivesUpIn old new rank waiting → AreSettled old.state ranks → AreSettled new.state ranks
given_settled old new rank [] ranks given settled = subst (λ (c : Core). AreSettled c.state ranks) (sym given) settled
given_settled old new rank (request ∷ rest) ranks given settled =
    subst (λ (c : Core). AreSettled c.state ranks) (sym given) (settled_beside old (with_waiting old.state.inboxes rank rest) (without_request old.state.pins request) ranks settled)

pub given_behind : (opening : Opening) (past history : List Entry) (old new : Core) (rank : Rank) (waiting : List Request) → GivesUpIn old new rank waiting → IsSoundBehind opening past history old → IsSoundBehind opening past history new
given_behind opening past history old new rank waiting given behind = record {
  sound = given_sound opening (past ++ history) old new rank waiting given behind.sound;
  aside = subst (λ (t : Table). AreSetAside past history t) (sym (known waiting given)) behind.aside;
}
  where
    known : (waiting : List Request) → GivesUpIn old new rank waiting → new.state.sessions ≡ old.state.sessions
    known [] given = ap (λ (k : Core). k.state.sessions) given
    known (request ∷ rest) given = ap (λ (k : Core). k.state.sessions) given
