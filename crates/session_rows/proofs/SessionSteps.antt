-- Rows of what is stored, in which a client or a rank gets another value.
use Rattle.session_rows.proofs.Common.{Bool, List, None, Option, Some, ap, arith, cond, false, inr, length, little_bytes, refl, subst, sym, true, ℕ, ◌<◌, ◌^◌, ◌∙◌, ◌≡◌}
use Rattle.std.proofs.Common.{eqb-true, ◌==◌}
use Rattle.std.specs.Cmp.{unsigned_tied}
use Rattle.std.specs.FinMap as finmap
use Rattle.std.specs.FinMap.{get-insert, get-remove, nat_cmp-IsAntisymmetric, slice_cmp-IsAntisymmetric}
use Rattle.std.specs.Cmp.Lexicographic.{nat_list_cmp_total}
use Rattle.std.specs.Ordering.{eq_by_cmp, is_eq, nat_cmp, ordering_then}
use Rattle.std.specs.declared.cmp.Ordering.{Ordering}
use Rattle.std.specs.declared.cmp.Ordering.TheVariants.{Equal, Greater, Less}
use Rattle.byteorder.specs.Numbers.{length-bytes_high_first}
use Rattle.mds_types.specs.declared.ids.Rank.{Rank as RankNumber}
use Rattle.objstore.specs.Omap.{key_cmp}
use Rattle.keeping.specs.Rows.{SessionRows, with_row_value}
use Rattle.sessions.specs.Stored.{Stored, stored_of}
use Rattle.session_rows.proofs.KeyOrder.{eight_in_order}
use Rattle.session_rows.specs.Keys.{client_bytes, rank_bytes}
use Rattle.session_rows.specs.RankRows.{IsNextIno}
use Rattle.session_rows.specs.Sessions.{IsStorable, IsStoredNext, SpellsSessions, client_value, next_of, rank_value}
use Rattle.session_rows.specs.declared.keys.Key.TheVariants.{Client, Rank}

-- ---- keys

pub got_with : (value : Option (List ℕ)) (key q : List ℕ) (rows : SessionRows) → finmap.get (with_row_value value key rows) q ≡ cond (eq_by_cmp key_cmp q key) value (finmap.get rows q)
got_with None key q rows = get-remove nat_list_cmp_total rows key q
got_with (Some value) key q rows = get-insert nat_list_cmp_total rows key value q

pub apart : (a b : List ℕ) → (a ≡ b → ⊥) → eq_by_cmp key_cmp a b ≡ false
apart a b other = go (key_cmp a b) refl
  where
    go : (o : Ordering) → key_cmp a b ≡ o → is_eq o ≡ false
    go Less e = refl
    go Equal e = absurd (other (slice_cmp-IsAntisymmetric nat_cmp-IsAntisymmetric a b e))
    go Greater e = refl

client_test : (q client : ℕ) → q < 2 ^ 64 → client < 2 ^ 64 → eq_by_cmp key_cmp (client_bytes q) (client_bytes client) ≡ (q == client)
client_test q client low fits = ap is_eq (eight_in_order q client low fits) ∙ unsigned_tied q client

rank_test : (r rank : RankNumber) → eq_by_cmp key_cmp (rank_bytes r) (rank_bytes rank) ≡ (r.0 == rank.0)
rank_test r rank = go (nat_cmp r.0 rank.0) ∙ unsigned_tied r.0 rank.0
  where
    go : (o : Ordering) → is_eq (ordering_then o Equal) ≡ is_eq o
    go Less = refl
    go Equal = refl
    go Greater = refl

pub lengths_differ : (rank : RankNumber) (client : ℕ) → rank_bytes rank ≡ client_bytes client → ⊥
lengths_differ rank client e = let one : 1 ≡ 8 = ap length e ∙ length-bytes_high_first 8 client in omega (arith, one)

-- ---- a client

module _ (rows : SessionRows) (stored new : List Stored) (nexts : List ℕ) (client : ℕ) (found : Option Stored) (is : SpellsSessions rows stored nexts) (fits : client < 2 ^ 64) (can : IsStorable client found)
    (got : (q : ℕ) → stored_of new q ≡ cond (q == client) found (stored_of stored q)) where
  value_by : (b : Bool) (x y : Option Stored) → cond b (client_value x) (client_value y) ≡ client_value (cond b x y)
  value_by true x y = refl
  value_by false x y = refl

  storable_by : (q : ℕ) (b : Bool) → (q == client) ≡ b → IsStorable q (cond b found (stored_of stored q))
  storable_by q true e = subst (λ (c : ℕ). IsStorable c found) (sym (eqb-true q client e)) can
  storable_by q false e = is.storable q

  others_stay : (q : List ℕ) → (q ≡ client_bytes client → ⊥) → finmap.get (with_row_value (client_value found) (client_bytes client) rows) q ≡ finmap.get rows q
  others_stay q other = got_with (client_value found) (client_bytes client) q rows ∙ ap (λ (b : Bool). cond b (client_value found) (finmap.get rows q)) (apart q (client_bytes client) other)

  pub client_set : SpellsSessions (with_row_value (client_value found) (client_bytes client) rows) new nexts
  client_set = record {
    clients = λ q low.
        got_with (client_value found) (client_bytes client) (client_bytes q) rows
        ∙ (λ i. cond (client_test q client low fits i) (client_value found) (is.clients q low i))
        ∙ value_by (q == client) found (stored_of stored q)
        ∙ ap client_value (sym (got q));
    ranks = λ rank low. others_stay (rank_bytes rank) (lengths_differ rank client) ∙ is.ranks rank low;
    others = λ key none. others_stay key (λ e. none (Client client) (record { known = fits; spelled = e })) ∙ is.others key none;
    storable = λ q. subst (IsStorable q) (sym (got q)) (storable_by q (q == client) refl);
    ranged = is.ranged;
    long = is.long;
  }

-- ---- a rank

not_zero : (n : ℕ) → 0 < n → (n == 0) ≡ false
not_zero n some = go (n == 0) refl
  where
    go : (b : Bool) → (n == 0) ≡ b → b ≡ false
    go true e = let none = eqb-true n 0 e in absurd (omega (arith, some, none))
    go false e = refl

pub stored_next : (rank : RankNumber) (next : ℕ) → IsNextIno rank (record { 0 = next }) → rank_value next ≡ Some (little_bytes 8 next)
stored_next rank next can = ap (λ (b : Bool). cond b None (Some (little_bytes 8 next))) (not_zero next (omega (arith, can.least)))

module _ (rows : SessionRows) (stored : List Stored) (old new : List ℕ) (rank : RankNumber) (next : ℕ) (is : SpellsSessions rows stored old) (low : rank.0 < 16) (can : IsNextIno rank (record { 0 = next }))
    (long : length new ≡ 16) (got : (r : RankNumber) → r.0 < 16 → next_of new r ≡ cond (r.0 == rank.0) next (next_of old r)) where
  next_by : (b : Bool) (n : ℕ) → cond b (Some (little_bytes 8 next)) (rank_value n) ≡ rank_value (cond b next n)
  next_by true n = sym (stored_next rank next can)
  next_by false n = refl

  ranged_by : (r : RankNumber) → r.0 < 16 → (b : Bool) → (r.0 == rank.0) ≡ b → IsStoredNext r (cond b next (next_of old r))
  ranged_by r few true e = inr (subst (λ (n : ℕ). IsNextIno (record { 0 = n }) (record { 0 = next })) (sym (eqb-true r.0 rank.0 e)) can)
  ranged_by r few false e = is.ranged r few

  ranks_stay : (q : List ℕ) → (q ≡ rank_bytes rank → ⊥) → finmap.get (finmap.insert rows (rank_bytes rank) (little_bytes 8 next)) q ≡ finmap.get rows q
  ranks_stay q other = got_with (Some (little_bytes 8 next)) (rank_bytes rank) q rows ∙ ap (λ (b : Bool). cond b (Some (little_bytes 8 next)) (finmap.get rows q)) (apart q (rank_bytes rank) other)

  pub rank_set : SpellsSessions (finmap.insert rows (rank_bytes rank) (little_bytes 8 next)) stored new
  rank_set = record {
    clients = λ q fits. ranks_stay (client_bytes q) (λ e. lengths_differ rank q (sym e)) ∙ is.clients q fits;
    ranks = λ r few.
        got_with (Some (little_bytes 8 next)) (rank_bytes rank) (rank_bytes r) rows
        ∙ (λ i. cond (rank_test r rank i) (Some (little_bytes 8 next)) (is.ranks r few i))
        ∙ next_by (r.0 == rank.0) (next_of old r)
        ∙ ap rank_value (sym (got r few));
    others = λ key none. ranks_stay key (λ e. none (Rank rank) (record { known = low; spelled = e })) ∙ is.others key none;
    storable = is.storable;
    ranged = λ r few. subst (IsStoredNext r) (sym (got r few)) (ranged_by r few (r.0 == rank.0) refl);
    long = long;
  }
