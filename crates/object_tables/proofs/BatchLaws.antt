-- Pairs that wait to be set in an object, and one more that is read.
use Rattle.std.proofs.Common.{◌≡◌, ℕ, Bool, true, false, cond, List, Option, Some, None, refl, sym, ap, subst, ◌∙◌, is_some, true≢false}
use Rattle.std.specs.Option.{option_or}
use Rattle.std.specs.Ordering.{eq_by_cmp, is_eq, ordering_reverse}
use Rattle.std.specs.Cmp.{tied_itself}
use Rattle.std.specs.Cmp.Lexicographic.{nat_list_cmp_total}
use Rattle.std.specs.FinMap as map
use Rattle.std.specs.FinMap.{get-empty, get-insert, same_map}
use Rattle.std.proofs.lemmas.Map.Lookups.{exact_bytes}
use Rattle.sorted_map.specs.Overlay.{overlaid, without_keys}
use Rattle.sorted_map.proofs.MapLaws.{get-overlaid}
use Rattle.objstore.specs.declared.write_ops.WriteOp.{WriteOp}
use Rattle.objstore.specs.Omap.{Omap, PairMap, key_cmp}
use Rattle.objstore.specs.Objects.{Objects, written}
use Rattle.objstore.specs.Writes.{applied, nothing}
use Rattle.objstore.proofs.WriteLaws.{applied-parts}
use Rattle.object_tables.specs.Entries.{entry}
use Rattle.object_tables.specs.Reading.{AddsPair, HoldsBatch, IsBatch, IsReadUpTo, Precedes, sets_pairs, with_unset}
use Rattle.object_tables.specs.Spelled.{pair_key}
use Rattle.object_tables.proofs.RowLaws.{get_laid}
use Rattle.object_tables.proofs.SpelledLaws.{same_name}

-- ---- maps

overlaid_none : (pairs : PairMap) → overlaid pairs map.empty ≡ pairs
overlaid_none pairs =
    same_map nat_list_cmp_total exact_bytes _ _ (λ q. get-overlaid nat_list_cmp_total pairs map.empty q ∙ ap (λ (o : Option (List ℕ)). option_or o (map.get pairs q)) (get-empty key_cmp q))

one_more : (b : Bool) (v : List ℕ) (set pairs : Option (List ℕ)) → option_or (cond b (Some v) set) pairs ≡ cond b (Some v) (option_or set pairs)
one_more true v set pairs = refl
one_more false v set pairs = refl

overlaid_more : (pairs set : PairMap) (key value : List ℕ) → overlaid pairs (map.insert set key value) ≡ map.insert (overlaid pairs set) key value
overlaid_more pairs set key value = same_map nat_list_cmp_total exact_bytes _ _ (λ q.
    get-overlaid nat_list_cmp_total pairs (map.insert set key value) q
    ∙ (ap (λ (o : Option (List ℕ)). option_or o (map.get pairs q)) (get-insert nat_list_cmp_total set key value q)
    ∙ (one_more (eq_by_cmp key_cmp q key) value (map.get set q) (map.get pairs q)
    ∙ sym (get-insert nat_list_cmp_total (overlaid pairs set) key value q ∙ ap (cond (eq_by_cmp key_cmp q key) (Some value)) (get-overlaid nat_list_cmp_total pairs set q)))))

get_put : (objects : Objects) (name : List ℕ) (object : Omap) → map.get (map.insert objects name object) name ≡ Some object
get_put objects name object =
    get-insert nat_list_cmp_total objects name object name
    ∙ ap (λ (b : Bool). cond b (Some object) (map.get objects name)) (ap is_eq (tied_itself nat_list_cmp_total name))

put_again : (objects : Objects) (name : List ℕ) (object : Omap) → map.get objects name ≡ Some object → map.insert objects name object ≡ objects
put_again objects name object there =
    same_map nat_list_cmp_total exact_bytes _ _ (λ q. get-insert nat_list_cmp_total objects name object q ∙ at q (eq_by_cmp key_cmp q name) refl)
  where
    at : (q : List ℕ) (b : Bool) → eq_by_cmp key_cmp q name ≡ b → cond b (Some object) (map.get objects q) ≡ map.get objects q
    at q true e = sym there ∙ ap (map.get objects) (sym (same_name q name e))
    at q false e = refl

twice : {X : Type 0} (b : Bool) (x y : X) (z : Option X) → cond b (Some y) (cond b (Some x) z) ≡ cond b (Some y) z
twice true x y z = refl
twice false x y z = refl

put_twice : (objects : Objects) (name : List ℕ) (a b : Omap) → map.insert (map.insert objects name a) name b ≡ map.insert objects name b
put_twice objects name a b = same_map nat_list_cmp_total exact_bytes _ _ (λ q.
    get-insert nat_list_cmp_total (map.insert objects name a) name b q
    ∙ (ap (cond (eq_by_cmp key_cmp q name) (Some b)) (get-insert nat_list_cmp_total objects name a q)
    ∙ (twice (eq_by_cmp key_cmp q name) a b (map.get objects q) ∙ sym (get-insert nat_list_cmp_total objects name b q))))

-- ---- operations that set pairs

abbrev with_set : Omap → PairMap → Omap
with_set object set = record { header = object.header; pairs = overlaid object.pairs set }

set_applied : (object : Omap) (set : PairMap) → applied (sets_pairs set) object ≡ with_set object set
set_applied object set =
    let pairs : without_keys {W = Unit {0}} (overlaid object.pairs set) map.empty ≡ overlaid object.pairs set =
    same_map nat_list_cmp_total exact_bytes _ _ (λ q. get_laid object.pairs set q ∙ sym (get-overlaid nat_list_cmp_total object.pairs set q)) in
    applied-parts (sets_pairs set) object ∙ (λ i. record { header = object.header; pairs = pairs i })

set_written : (objects : Objects) (name : List ℕ) (set : PairMap) (object : Omap) → map.get objects name ≡ Some object
    → written objects name (sets_pairs set) ≡ map.insert objects name (with_set object set)
unfolding written
set_written objects name set object there = rw there (ap (map.insert objects name) (set_applied object set))

nothing_written : (objects : Objects) (name : List ℕ) (object : Omap) → map.get objects name ≡ Some object → written objects name nothing ≡ objects
nothing_written objects name object there =
    set_written objects name map.empty object there
    ∙ (ap (map.insert objects name) (λ i. record { header = object.header; pairs = overlaid_none object.pairs i }) ∙ put_again objects name object there)

-- the same of an operation that is known to set pairs alone
op_written : (objects : Objects) (name : List ℕ) (op : WriteOp) (object : Omap) → map.get objects name ≡ Some object → op ≡ sets_pairs op.set
    → written objects name op ≡ map.insert objects name (with_set object op.set)
op_written objects name op object there sets = ap (written objects name) sets ∙ set_written objects name op.set object there

-- ---- ready for a key

pub ready_on : (objects : Objects) (name : List ℕ) (op : WriteOp) (last : Option (List ℕ)) (key : List ℕ) → HoldsBatch objects name op last → Precedes last key
    → IsReadUpTo objects name op key (with_unset objects name op last)
ready_on objects name op None key holds before = absurd before
ready_on objects name op (Some last) key holds before = record {
  object = holds.object;
  there = holds.there;
  sets = holds.sets;
  absent = holds.past key before;
  past = λ k less. holds.past k (nat_list_cmp_total.trans last key k before less);
  same = refl;
}

pub ready_set : (objects new : Objects) (name : List ℕ) (op now : WriteOp) (last : Option (List ℕ)) (key : List ℕ) → HoldsBatch objects name op last → Precedes last key
    → new ≡ written objects name op → now ≡ nothing → IsReadUpTo new name now key (with_unset objects name op last)
ready_set objects new name op now None key holds before set none = absurd before
ready_set objects new name op now (Some last) key holds before set none =
    let object = with_set holds.object op.set in
    let there : map.get new name ≡ Some object = ap (λ (o : Objects). map.get o name) (set ∙ op_written objects name op holds.object holds.there holds.sets) ∙ get_put objects name object in
    let pairs : overlaid object.pairs map.empty ≡ object.pairs = overlaid_none object.pairs in
    subst (λ n. IsReadUpTo new name n key (written objects name op)) (sym none) (record {
      object = object;
      there = there;
      sets = refl;
      absent = ap (λ (p : PairMap). map.get p key) pairs ∙ holds.past key before;
      past = λ k less. ap (λ (p : PairMap). map.get p k) pairs ∙ holds.past k (nat_list_cmp_total.trans last key k before less);
      same = nothing_written new name object there ∙ set;
    })

pub ready_bare : (objects before : Objects) (name : List ℕ) (op : WriteOp) (object : Omap) (key : List ℕ) → map.get objects name ≡ Some object → object.pairs ≡ map.empty
    → op ≡ nothing → objects ≡ before → IsReadUpTo objects name op key before
ready_bare objects before name op object key there bare none was =
    let pairs : overlaid object.pairs map.empty ≡ map.empty = overlaid_none object.pairs ∙ bare in
    subst (λ n. IsReadUpTo objects name n key before) (sym none) (record {
      object = object;
      there = there;
      sets = refl;
      absent = ap (λ (p : PairMap). map.get p key) pairs ∙ get-empty key_cmp key;
      past = λ k less. ap (λ (p : PairMap). map.get p k) pairs ∙ get-empty key_cmp k;
      same = nothing_written objects name object there ∙ was;
    })

-- ---- one more pair

abbrev pub with_pair : WriteOp → List ℕ → List ℕ → WriteOp
with_pair op key value = record op { set = map.insert op.set key value }

pair_sets : (op : WriteOp) (key value : List ℕ) → op ≡ sets_pairs op.set → with_pair op key value ≡ sets_pairs (map.insert op.set key value)
pair_sets op key value sets = ap (λ (o : WriteOp). record o { set = map.insert op.set key value }) sets

pub taken_batch : (objects before : Objects) (name : List ℕ) (op : WriteOp) (key value : List ℕ) → IsReadUpTo objects name op key before
    → IsBatch objects name (with_pair op key value) key
taken_batch objects before name op key value ready = record {
  object = ready.object;
  there = ready.there;
  sets = pair_sets op key value ready.sets;
  past = λ k less.
      ap (λ (p : PairMap). map.get p k) (overlaid_more ready.object.pairs op.set key value)
      ∙ (get-insert nat_list_cmp_total (overlaid ready.object.pairs op.set) key value k
      ∙ (ap (λ (b : Bool). cond b (Some value) (map.get (overlaid ready.object.pairs op.set) k)) (ap is_eq (nat_list_cmp_total.antisymm k key ∙ ap ordering_reverse less))
      ∙ ready.past k less));
}

pub taken_pair : (objects before : Objects) (name : List ℕ) (op : WriteOp) (key value : List ℕ) → IsReadUpTo objects name op key before
    → AddsPair before (written objects name (with_pair op key value)) (entry (pair_key name key) value)
taken_pair objects before name op key value ready =
    let object = with_set ready.object op.set in
    let more : Omap = record { header = object.header; pairs = map.insert object.pairs key value } in
    let was : before ≡ map.insert objects name object = sym ready.same ∙ op_written objects name op ready.object ready.there ready.sets in
    record {
      name = name;
      key = key;
      value = value;
      is = refl;
      object = object;
      there = ap (λ (o : Objects). map.get o name) was ∙ get_put objects name object;
      absent = ready.absent;
      added =
          op_written objects name (with_pair op key value) ready.object ready.there (pair_sets op key value ready.sets)
          ∙ (ap (map.insert objects name) (λ i. record { header = object.header; pairs = overlaid_more ready.object.pairs op.set key value i })
          ∙ (sym (put_twice objects name object more) ∙ ap (λ (o : Objects). map.insert o name more) (sym was)));
    }

-- ---- what waits, or nothing

pub set_waiting : (objects new : Objects) (name : List ℕ) (op : WriteOp) (last : Option (List ℕ)) → is_some last ≡ true → new ≡ written objects name op
    → new ≡ with_unset objects name op last
set_waiting objects new name op None some set = absurd (true≢false (sym some))
set_waiting objects new name op (Some last) some set = set

pub none_waits : (objects : Objects) (name : List ℕ) (op : WriteOp) (last : Option (List ℕ)) → is_some last ≡ false → HoldsBatch objects name op last
    → (objects ≡ with_unset objects name op last) × (op ≡ nothing)
none_waits objects name op None some holds = (refl, holds)
none_waits objects name op (Some last) some holds = absurd (true≢false some)

pub begun : (objects : Objects) (name : List ℕ) (op : WriteOp) (last : Option (List ℕ)) → last ≡ None → op ≡ nothing
    → HoldsBatch objects name op last × (with_unset objects name op last ≡ objects)
begun objects name op None none is = (is, refl)
begun objects name op (Some last) none is = absurd cc
