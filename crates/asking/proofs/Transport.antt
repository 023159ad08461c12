-- What holds of a state holds of one that differs from it in what waits and in grants alone.
use Rattle.asking.proofs.Common.{ChangesFrozen, Core, Inboxes, IsFrozenAt, IsHolder, IsLive, KeepsButGrants, KeepsUnclean, LacksPlaces, Leaf, List, Op, Pin, Rank, State, WaitsAlone, WhyNotGranted, Request, Refusal, ap, arith, inl, inr, left_without, is_for, subst, sym, with_waiting, ℕ, ◌<◌, ◌∙◌, ◌∷◌, [], ◌≡◌}
use Rattle.std.specs.FinMap as map

-- a state is another but for its inboxes and grants
pub record IsAlike (old now : State) : Type 0 where
  pub is : now ≡ record old { inboxes = now.inboxes; pins = now.pins }

pub alike_grants : (old now : State) (client tid : ℕ) → KeepsButGrants old now client tid → IsAlike old now
alike_grants old now client tid kept =
    let same : now.inboxes ≡ old.inboxes = ap (λ (s : State). s.inboxes) kept.left in
    record { is = kept.left ∙ ap (λ (i : Inboxes). record old { inboxes = i; pins = now.pins }) (sym same) }

pub alike_alone : (old now : State) (rank : Rank) (request : Request) → WaitsAlone old now rank request → IsAlike old now
alike_alone old now rank request alone =
    let same : now.inboxes ≡ with_waiting old.inboxes rank (request ∷ []) = ap (λ (s : State). s.inboxes) alone.kept.left in
    record { is = alone.kept.left ∙ ap (λ (i : Inboxes). record old { inboxes = i; pins = now.pins }) (sym same) }

module _ (old now : State) (alike : IsAlike old now) where
  -- whatever is said of neither
  pub back : (P : State → Type 0) → P now → P (record old { inboxes = now.inboxes; pins = now.pins })
  back P h = subst P alike.is h

  pub forth : (P : State → Type 0) → P (record old { inboxes = now.inboxes; pins = now.pins }) → P now
  forth P h = subst P (sym alike.is) h

  pub frozen_back : (leaf : Leaf) → IsFrozenAt now leaf → IsFrozenAt old leaf
  frozen_back leaf h = back (λ (s : State). IsFrozenAt s leaf) h

  pub changes_frozen : (op : Op) → ChangesFrozen now op → ChangesFrozen old op
  changes_frozen op h = back (λ (s : State). ChangesFrozen s op) h

-- one after another
pub grants_then : (old mid now : State) (client tid : ℕ) → KeepsButGrants old mid client tid → KeepsButGrants mid now client tid → KeepsButGrants old now client tid
grants_then old mid now client tid one other = record {
  left = other.left ∙ ap (λ (s : State). record s { pins = now.pins }) one.left;
  others = other.others ∙ one.others;
}

pub no_grants : (old now : State) (client tid : ℕ) → now ≡ old → KeepsButGrants old now client tid
no_grants old now client tid same =
    let pins : now.pins ≡ old.pins = ap (λ (s : State). s.pins) same in record {
      left = same ∙ ap (λ (ps : List Pin). record old { pins = ps }) (sym pins);
      others = ap (left_without (is_for client tid)) pins;
    }

pub unclean_then : (old mid now : Core) → KeepsUnclean old mid → KeepsUnclean mid now → KeepsUnclean old now
unclean_then old mid now one other = record { unclean = λ rank. other.unclean rank ∙ one.unclean rank; cap = other.cap ∙ one.cap }

module _ (old mid : Core) (alike : IsAlike old.state mid.state) (kept : KeepsUnclean old mid) where
  -- places lack later where they lacked before
  pub lacks_places : (op : Op) → LacksPlaces mid op → LacksPlaces old op
  lacks_places op (leaf, concerns, live, (rank, holds, lacks)) = (
    leaf,
    concerns,
    back old.state mid.state alike (λ (s : State). IsLive s.tree.homes s.tree.covers leaf) live,
    (rank, back old.state mid.state alike (λ (s : State). IsHolder s leaf rank) holds, omega (arith, lacks, kept.cap, ap (λ m. map.len m) (kept.unclean rank.0))),
  )

  -- so why a grant isn't made, or a request has to wait
  pub why_not : (new : Core) (op : Op) (reason : Refusal) → mid.faults ≡ old.faults → WhyNotGranted mid new op reason → WhyNotGranted old new op reason
  why_not new op reason same (inl memory) = inl memory
  why_not new op reason same (inr (inl (is, rose))) = inr (inl (is, subst (λ (n : ℕ). n < new.faults) same rose))
  why_not new op reason same (inr (inr (inl (is, lacks)))) = inr (inr (inl (is, lacks_places op lacks)))
  why_not new op reason same (inr (inr (inr (is, frozen)))) = inr (inr (inr (is, changes_frozen old.state mid.state alike op frozen)))
