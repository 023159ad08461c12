-- An operation that changes nothing changes no leaf.
use Rattle.cluster_core.proofs.Common.{Bool, Covers, Lists, Looks, Makes, Moves, Op, Outcome, Removes, Sets, Shape, Tree, Unlinks, [], answers, ap, changed_fragments, cond, errno_of_any_number, false, fragment_of, is_errno, is_idle, leaves_at, refl, shape, stays_in, step, sym, touched, touched_in, true, ℕ, ◌||◌, ◌∙◌, ◌∷◌, ◌≡◌}
use Rattle.mds_types.specs.declared.replies.Reply.{Reply}
use Rattle.namespace_ops.specs.Changes.{stays}
use Rattle.std.specs.FinMap as map

touched_none : (covers : Covers) (tree : Tree) (s : Shape) → stays_in s ≡ true → touched_in covers tree s ≡ []
touched_none covers tree (Looks dentry answer) is = refl
touched_none covers tree (Lists dir after max) is = refl
touched_none covers tree (Makes dentry kind mode birth) is = cc
touched_none covers tree (Sets dentry alteration) is = cc
touched_none covers tree (Unlinks dentry) is = cc
touched_none covers tree (Removes dentry) is = cc
touched_none covers tree (Moves from to) is = ap (λ b. cond b [] (fragment_of covers from ∷ fragment_of covers to ∷ leaves_at covers (map.get tree to))) is

pub idle_fragments : (limit : ℕ) (covers : Covers) (tree : Tree) (op : Op) (n : ℕ) (said : Reply) → step limit tree op n ≡ answers tree said → is_idle op said ≡ true → changed_fragments limit covers tree op ≡ []
idle_fragments limit covers tree op n said is idle = go (is_errno said) refl
  where
    told : is_errno (step limit tree op 0).reply ≡ is_errno said
    told = errno_of_any_number limit tree op 0 n ∙ ap (λ (o : Outcome). is_errno o.reply) is

    go : (b : Bool) → is_errno said ≡ b → changed_fragments limit covers tree op ≡ []
    go true e = ap (λ b. cond b [] (touched covers tree op)) (told ∙ e)
    go false e = ap (λ b. cond b [] (touched covers tree op)) (told ∙ e) ∙ touched_none covers tree (shape op) (sym (ap (λ b. b || stays op) e) ∙ idle)
