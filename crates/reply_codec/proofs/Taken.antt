-- What is read of a reply is what its bytes spell.
use Rattle.reply_codec.proofs.Common.{AllByRecursion, AreWidths, Bool, Dir, Done, Entries, Entry, Errno, File, Fit, HasRank, HasTarget, Inode, InodeFields, IsBytes, IsBytes-drop, IsInode, IsListed, IsName, IsReply, IsTarget, IsWidth, Kind, List, None, Option, Rank, Reply, Some, Symlink, Takes, Takes-then, Target, [], ap, arith, bind_some, byte_at, byte_takes, bytes_at, cond, cond_some, counted_at, counted_bytes, drop, eqb, eqb-true, false, fields_bytes, flat_map, get_or, guard_not, inode_from, inode_numbers, inode_widths, is_name, is_target, kind_byte, kind_from, leb, length, length-take, list_at, listed_bytes, little_bytes, ltb, ltb-false, mode_from, more_byte, more_of, name_decides, nat_tests, nil_from_length, number_at, number_takes, numbers_are, numbers_at, numbers_take, pin_from, pin_number, plain_fields, refl, reply_bytes, said_at, same_Some, subst, sym, take, take-append-drop, target_bytes, true, width_1, width_2, width_4, width_8, ℕ, ◌++◌, ◌+◌, ◌-◌, ◌<◌, ◌>>=◌, ◌^◌, ◌∙◌, ◌∷◌, ◌≡◌, ◌≤◌}
use Rattle.reply_codec.specs.ReplyBytes.{plain_bytes}
use Rattle.reply_codec.specs.Reading.{listing_at, found_at, errno_at, plain_fields_at, plain_inode_at, inode_said, link_at, listed_at, entry_name_at, reply_at, target_at}
use Rattle.reply_codec.proofs.Again.{target_decides}
use Rattle.reply_codec.proofs.Items.{Listed, list_takes}

part_takes : (n : ℕ) (bytes x rest : List ℕ) → IsBytes bytes → bytes_at n bytes ≡ Some (x, rest) → (length x ≡ n) × Takes bytes x rest
part_takes n bytes x rest fits read =
    let g = guard_not (ltb (length bytes) n) (take n bytes, drop n bytes) (x, rest) read in
    let long : n ≤ length bytes = ltb-false _ _ g.0 in
    let P : List ℕ × List ℕ → Type 0 = λ p. (length p.0 ≡ n) × Takes bytes p.0 p.1 in
    subst P g.1 (omega (arith, length-take n bytes), record { parts = sym (take-append-drop n bytes); rest_fits = IsBytes-drop n bytes fits })

counted_takes : (width : ℕ) (known : IsWidth width) (bytes x rest : List ℕ) → IsBytes bytes → counted_at width bytes ≡ Some (x, rest) → Takes bytes (counted_bytes width x) rest
counted_takes width known bytes x rest fits read =
    let a = bind_some (number_at width bytes) (λ len. bytes_at len.0 len.1) (x, rest) read in
    let t = number_takes width known bytes a.0.0 a.0.1 fits a.1 in
    let p = part_takes a.0.0 a.0.1 x rest t.0.rest_fits a.2 in
    let whole : Takes bytes (little_bytes width a.0.0 ++ x) rest = Takes-then bytes (little_bytes width a.0.0) a.0.1 x rest t.0 p.1 in
    subst (λ (k : ℕ). Takes bytes (little_bytes width k ++ x) rest) (sym p.0) whole

name_takes : (bytes x rest : List ℕ) → IsBytes bytes → entry_name_at bytes ≡ Some (x, rest) → IsName x × Takes bytes (counted_bytes 1 x) rest
unfolding entry_name_at
name_takes bytes x rest fits read =
    let a = bind_some (counted_at 1 bytes) (λ part. cond (is_name part.0) (Some part) None) (x, rest) read in
    let g = cond_some (is_name a.0.0) a.0 (x, rest) a.2 in
    let P : List ℕ × List ℕ → Type 0 = λ q. IsName q.0 × Takes bytes (counted_bytes 1 q.0) q.1 in
    subst P g.1 ((name_decides a.0.0).0 g.0, counted_takes 1 width_1 bytes a.0.0 a.0.1 fits a.1)

target_takes : (bytes x rest : List ℕ) → IsBytes bytes → target_at bytes ≡ Some (x, rest) → IsTarget x × Takes bytes (counted_bytes 2 x) rest
unfolding target_at
target_takes bytes x rest fits read =
    let a = bind_some (counted_at 2 bytes) (λ part. cond (is_target part.0) (Some part) None) (x, rest) read in
    let g = cond_some (is_target a.0.0) a.0 (x, rest) a.2 in
    let P : List ℕ × List ℕ → Type 0 = λ q. IsTarget q.0 × Takes bytes (counted_bytes 2 q.0) q.1 in
    subst P g.1 ((target_decides a.0.0).0 g.0, counted_takes 2 width_2 bytes a.0.0 a.0.1 fits a.1)

-- ---- inodes

mode_takes : (bits mode : ℕ) → mode_from bits ≡ Some mode → (mode ≤ 4095) × (mode ≡ bits)
mode_takes bits mode e =
    let g = cond_some (leb bits 4095) bits mode e in
    let few : bits ≤ 4095 = grind (arith, nat_tests, g.0) in
    subst (λ (m : ℕ). (m ≤ 4095) × (m ≡ bits)) g.1 (few, refl)

pin_takes : (number : ℕ) (pin : Option Rank) → pin_from number ≡ Some pin → HasRank pin × (pin_number pin ≡ number)
pin_takes number pin e = go (eqb number 0) (leb number 256) refl refl e
  where
    P : Option Rank → Type 0
    P p = HasRank p × (pin_number p ≡ number)

    go : (a b : Bool) → eqb number 0 ≡ a → leb number 256 ≡ b → cond a (Some None) (cond b (Some (Some (record { 0 = number - 1 }))) None) ≡ Some pin → P pin
    go true b ha hb e = subst P (same_Some None pin e) (tt, sym (eqb-true number 0 ha))
    go false true ha hb e =
        let low : number - 1 < 2 ^ 8 = grind (arith, nat_tests, hb) in
        let same : number - 1 + 1 ≡ number = grind (arith, nat_tests, ha) in
        subst P (same_Some (Some (record { 0 = number - 1 })) pin e) (low, same)
    go false false ha hb e = absurd cc

record KindTaken (byte : ℕ) (target : List ℕ) (kind : Kind) : Type 0 where
  known : HasTarget kind
  byte_is : kind_byte kind ≡ byte
  target_is : target_bytes kind ≡ target

kind_takes : (byte : ℕ) (target : List ℕ) (kind : Kind) → kind_from byte target ≡ Some kind → KindTaken byte target kind
kind_takes byte target kind e = go (eqb byte 3) (is_target target) (eqb (length target) 0) (eqb byte 1) (eqb byte 2) refl refl refl refl refl e
  where
    go : (l t n f d : Bool) → eqb byte 3 ≡ l → is_target target ≡ t → eqb (length target) 0 ≡ n → eqb byte 1 ≡ f → eqb byte 2 ≡ d
        → cond l (cond t (Some (Symlink target)) None) (cond n (cond f (Some File) (cond d (Some Dir) None)) None) ≡ Some kind → KindTaken byte target kind
    go true true n f d hl ht hn hf hd e =
        subst (KindTaken byte target) (same_Some (Symlink target) kind e) (record { known = (target_decides target).0 ht; byte_is = sym (eqb-true byte 3 hl); target_is = refl })
    go true false n f d hl ht hn hf hd e = absurd cc
    go false t true true d hl ht hn hf hd e =
        subst (KindTaken byte target) (same_Some File kind e) (record { known = tt; byte_is = sym (eqb-true byte 1 hf); target_is = sym (nil_from_length target (eqb-true (length target) 0 hn)) })
    go false t true false true hl ht hn hf hd e =
        subst (KindTaken byte target) (same_Some Dir kind e) (record { known = tt; byte_is = sym (eqb-true byte 2 hd); target_is = sym (nil_from_length target (eqb-true (length target) 0 hn)) })
    go false t true false false hl ht hn hf hd e = absurd cc
    go false t false f d hl ht hn hf hd e = absurd cc

-- what fields were read from
record FieldsTaken (bytes : List ℕ) (f : InodeFields) (rest : List ℕ) : Type 0 where
  numbers : List ℕ
  target : List ℕ
  fit : Fit inode_widths numbers
  len : length target ≡ get_or numbers 8 0
  taken : Takes bytes (fields_bytes inode_widths numbers ++ target) rest
  is : plain_fields numbers target ≡ f

widths_known : AreWidths inode_widths
widths_known = (width_1, (width_8, (width_8, (width_8, (width_4, (width_4, (width_2, (width_2, (width_2, tt)))))))))

fields_takes : (bytes : List ℕ) (f : InodeFields) (rest : List ℕ) → IsBytes bytes → plain_fields_at bytes ≡ Some (f, rest) → FieldsTaken bytes f rest
unfolding plain_fields_at
fields_takes bytes f rest fits read =
    let a = bind_some (numbers_at inode_widths bytes) (λ n. bytes_at (get_or n.0 8 0) n.1 >>= λ t. Some (plain_fields n.0 t.0, t.1)) (f, rest) read in
    let b = bind_some (bytes_at (get_or a.0.0 8 0) a.0.1) (λ t. Some (plain_fields a.0.0 t.0, t.1)) (f, rest) a.2 in
    let n = numbers_take inode_widths bytes a.0.0 a.0.1 widths_known fits a.1 in
    let p = part_takes (get_or a.0.0 8 0) a.0.1 b.0.0 b.0.1 n.rest_fits b.1 in
    let front : Takes bytes (fields_bytes inode_widths a.0.0) a.0.1 = record { parts = n.parts; rest_fits = n.rest_fits } in
    let P : InodeFields × List ℕ → Type 0 = λ q. FieldsTaken bytes q.0 q.1 in
    subst P (same_Some (plain_fields a.0.0 b.0.0, b.0.1) (f, rest) b.2)
    (record { numbers = a.0.0; target = b.0.0; fit = n.fit; len = p.0; taken = Takes-then bytes (fields_bytes inode_widths a.0.0) a.0.1 b.0.0 b.0.1 front p.1; is = refl })

-- an inode of these fields
record InodeTaken (f : InodeFields) (inode : Inode) : Type 0 where
  mode : ℕ
  pin : Option Rank
  kind : Kind
  mode_is : (mode ≤ 4095) × (mode ≡ f.mode)
  pin_is : HasRank pin × (pin_number pin ≡ f.pin)
  kind_is : KindTaken f.kind f.target kind
  is : inode_from f mode pin kind ≡ inode

inode_of_takes : (f : InodeFields) (inode : Inode) → inode_said f ≡ Some inode → InodeTaken f inode
unfolding inode_said
inode_of_takes f inode e =
    let a = bind_some (mode_from f.mode) (λ mode. pin_from f.pin >>= λ pin. kind_from f.kind f.target >>= λ kind. Some (inode_from f mode pin kind)) inode e in
    let b = bind_some (pin_from f.pin) (λ pin. kind_from f.kind f.target >>= λ kind. Some (inode_from f a.0 pin kind)) inode a.2 in
    let d = bind_some (kind_from f.kind f.target) (λ kind. Some (inode_from f a.0 b.0 kind)) inode b.2 in
    record {
      mode = a.0;
      pin = b.0;
      kind = d.0;
      mode_is = mode_takes f.mode a.0 a.1;
      pin_is = pin_takes f.pin b.0 b.1;
      kind_is = kind_takes f.kind f.target d.0 d.1;
      is = same_Some (inode_from f a.0 b.0 d.0) inode d.2;
    }

-- numbers that were read are those of the inode that was made of them
numbers_same : (n target : List ℕ) (mode : ℕ) (pin : Option Rank) (kind : Kind) → Fit inode_widths n → length target ≡ get_or n 8 0 → mode ≡ get_or n 6 0 → pin_number pin ≡ get_or n 7 0
    → kind_byte kind ≡ get_or n 0 0 → target_bytes kind ≡ target → n ≡ inode_numbers (inode_from (plain_fields n target) mode pin kind)
numbers_same n target mode pin kind fit len mode_is pin_is kind_is target_is =
    numbers_are inode_widths n fit
    ∙ (λ i. sym kind_is i ∷ get_or n 1 0 ∷ get_or n 2 0 ∷ get_or n 3 0 ∷ get_or n 4 0 ∷ get_or n 5 0 ∷ sym mode_is i ∷ sym pin_is i ∷ (sym len ∙ ap (λ (t : List ℕ). length t) (sym target_is)) i ∷ [])

inode_known : (n target : List ℕ) (mode : ℕ) (pin : Option Rank) (kind : Kind) → Fit inode_widths n → mode ≤ 4095 → HasRank pin → HasTarget kind → IsInode (inode_from (plain_fields n target) mode pin kind)
inode_known n target mode pin kind fit few ranked targeted =
    let same = numbers_are inode_widths n fit in
    let fits = subst (Fit inode_widths) same fit in
    record {
      number = omega (arith, fits.1.0);
      widths = record { size = omega (arith, fits.1.1.0); mtime = omega (arith, fits.1.1.1.0); uid = omega (arith, fits.1.1.1.1.0); gid = omega (arith, fits.1.1.1.1.1.0) };
      mode = few;
      pin = ranked;
      target = targeted;
    }

inode_joined : (bytes : List ℕ) (f : InodeFields) (rest : List ℕ) (inode : Inode) → FieldsTaken bytes f rest → InodeTaken f inode → IsInode inode × Takes bytes (plain_bytes inode) rest
unfolding plain_bytes
inode_joined bytes f rest inode a b =
    let P : InodeFields → Type 0 = λ g. InodeTaken g inode in
    let b = subst P (sym a.is) b in
    let made : Inode = inode_from (plain_fields a.numbers a.target) b.mode b.pin b.kind in
    let same : a.numbers ≡ inode_numbers made = numbers_same a.numbers a.target b.mode b.pin b.kind a.fit a.len b.mode_is.1 b.pin_is.1 b.kind_is.byte_is b.kind_is.target_is in
    let by_numbers : Takes bytes (fields_bytes inode_widths (inode_numbers made) ++ a.target) rest = subst (λ (n : List ℕ). Takes bytes (fields_bytes inode_widths n ++ a.target) rest) same a.taken in
    let whole : Takes bytes (plain_bytes made) rest = subst (λ (t : List ℕ). Takes bytes (fields_bytes inode_widths (inode_numbers made) ++ t) rest) (sym b.kind_is.target_is) by_numbers in
    let Q : Inode → Type 0 = λ i. IsInode i × Takes bytes (plain_bytes i) rest in
    subst Q b.is (inode_known a.numbers a.target b.mode b.pin b.kind a.fit b.mode_is.0 b.pin_is.0 b.kind_is.known, whole)

inode_takes : (bytes : List ℕ) (inode : Inode) (rest : List ℕ) → IsBytes bytes → plain_inode_at bytes ≡ Some (inode, rest) → IsInode inode × Takes bytes (plain_bytes inode) rest
unfolding plain_inode_at
inode_takes bytes inode rest fits read =
    let a = bind_some (plain_fields_at bytes) (λ f. inode_said f.0 >>= λ i. Some (i, f.1)) (inode, rest) read in
    let b = bind_some (inode_said a.0.0) (λ i. Some (i, a.0.1)) (inode, rest) a.2 in
    let P : Inode × List ℕ → Type 0 = λ q. IsInode q.0 × Takes bytes (plain_bytes q.0) q.1 in
    subst P (same_Some (b.0, a.0.1) (inode, rest) b.2) (inode_joined bytes a.0.0 a.0.1 b.0 (fields_takes bytes a.0.0 a.0.1 fits a.1) (inode_of_takes a.0.0 b.0 b.1))

-- ---- listings

listed_takes : (bytes : List ℕ) (entry : Listed) (rest : List ℕ) → IsBytes bytes → listed_at bytes ≡ Some (entry, rest) → IsListed entry × Takes bytes (listed_bytes entry) rest
unfolding listed_at
listed_takes bytes entry rest fits read =
    let a = bind_some (entry_name_at bytes) (λ n. plain_inode_at n.1 >>= λ i. Some ((n.0, i.0), i.1)) (entry, rest) read in
    let b = bind_some (plain_inode_at a.0.1) (λ i. Some ((a.0.0, i.0), i.1)) (entry, rest) a.2 in
    let n = name_takes bytes a.0.0 a.0.1 fits a.1 in
    let i = inode_takes a.0.1 b.0.0 b.0.1 n.1.rest_fits b.1 in
    let whole = Takes-then bytes (counted_bytes 1 a.0.0) a.0.1 (plain_bytes b.0.0) b.0.1 n.1 i.1 in
    let P : Listed × List ℕ → Type 0 = λ q. IsListed q.0 × Takes bytes (listed_bytes q.0) q.1 in
    subst P (same_Some ((a.0.0, b.0.0), b.0.1) (entry, rest) b.2) ((n.0, i.0), whole)

more_takes : (byte : ℕ) (more : Bool) → more_of byte ≡ Some more → more_byte more ≡ byte
more_takes byte more e = go (eqb byte 0) (eqb byte 1) refl refl e
  where
    P : Bool → Type 0
    P m = more_byte m ≡ byte

    go : (a b : Bool) → eqb byte 0 ≡ a → eqb byte 1 ≡ b → cond a (Some false) (cond b (Some true) None) ≡ Some more → P more
    go true b ha hb e = subst P (same_Some false more e) (sym (eqb-true byte 0 ha))
    go false true ha hb e = subst P (same_Some true more e) (sym (eqb-true byte 1 hb))
    go false false ha hb e = absurd cc

-- ---- replies: what follows the byte of each kind

abbrev Says : ℕ → List ℕ → Reply × List ℕ → Type 0
Says kind bytes q = IsReply q.0 × Takes (kind ∷ bytes) (reply_bytes q.0) q.1

behind : (kind : ℕ) (bytes text rest : List ℕ) → Takes bytes text rest → Takes (kind ∷ bytes) (kind ∷ text) rest
behind kind bytes text rest t = record { parts = ap (λ (x : List ℕ). kind ∷ x) t.parts; rest_fits = t.rest_fits }

said_of : (kind : ℕ) (bytes : List ℕ) (made reply : Reply) (after rest : List ℕ) → ◌≡◌ {A = Option (Reply × List ℕ)} (Some (made, after)) (Some (reply, rest)) → Says kind bytes (made, after) → Says kind bytes (reply, rest)
said_of kind bytes made reply after rest e said = subst (Says kind bytes) (same_Some (made, after) (reply, rest) e) said

entry_takes : (bytes : List ℕ) (reply : Reply) (rest : List ℕ) → IsBytes bytes → found_at bytes ≡ Some (reply, rest) → Says 1 bytes (reply, rest)
unfolding found_at
entry_takes bytes reply rest fits read =
    let a = bind_some (plain_inode_at bytes) (λ i. Some (Entry i.0, i.1)) (reply, rest) read in
    let t = inode_takes bytes a.0.0 a.0.1 fits a.1 in
    said_of 1 bytes (Entry a.0.0) reply a.0.1 rest a.2 (t.0, behind 1 bytes (plain_bytes a.0.0) a.0.1 t.1)

link_takes : (bytes : List ℕ) (reply : Reply) (rest : List ℕ) → IsBytes bytes → link_at bytes ≡ Some (reply, rest) → Says 3 bytes (reply, rest)
unfolding link_at
link_takes bytes reply rest fits read =
    let a = bind_some (target_at bytes) (λ t. Some (Target t.0, t.1)) (reply, rest) read in
    let t = target_takes bytes a.0.0 a.0.1 fits a.1 in
    said_of 3 bytes (Target a.0.0) reply a.0.1 rest a.2 (t.0, behind 3 bytes (counted_bytes 2 a.0.0) a.0.1 t.1)

errno_takes : (bytes : List ℕ) (reply : Reply) (rest : List ℕ) → IsBytes bytes → errno_at bytes ≡ Some (reply, rest) → Says 5 bytes (reply, rest)
unfolding errno_at
errno_takes bytes reply rest fits read =
    let a = bind_some (number_at 2 bytes) (λ n. Some (Errno n.0, n.1)) (reply, rest) read in
    let t = number_takes 2 width_2 bytes a.0.0 a.0.1 fits a.1 in
    said_of 5 bytes (Errno a.0.0) reply a.0.1 rest a.2 (omega (arith, t.1), behind 5 bytes (little_bytes 2 a.0.0) a.0.1 t.0)

entries_joined : (bytes t u rest : List ℕ) (byte count : ℕ) (more : Bool) (list : List Listed) → more_byte more ≡ byte → count < 2 ^ 64 → length list ≡ count → AllByRecursion IsListed list
    → Takes bytes (byte ∷ []) t → Takes t (little_bytes 8 count) u → Takes u (flat_map listed_bytes list) rest → Says 2 bytes (Entries list more, rest)
entries_joined bytes t u rest byte count more list said few len all t0 t1 t2 =
    let first : Takes bytes (more_byte more ∷ []) t = subst (λ (b : ℕ). Takes bytes (b ∷ []) t) (sym said) t0 in
    let counted : Takes t (little_bytes 8 (length list)) u = subst (λ (k : ℕ). Takes t (little_bytes 8 k) u) (sym len) t1 in
    let tail = Takes-then t (little_bytes 8 (length list)) u (flat_map listed_bytes list) rest counted t2 in
    let whole : Takes bytes (more_byte more ∷ (little_bytes 8 (length list) ++ flat_map listed_bytes list)) rest = Takes-then bytes (more_byte more ∷ []) t (little_bytes 8 (length list) ++ flat_map listed_bytes list) rest first tail in
    let bounded : length list < 2 ^ 64 = omega (arith, few, len) in
    ((bounded, all), behind 2 bytes (more_byte more ∷ (little_bytes 8 (length list) ++ flat_map listed_bytes list)) rest whole)

entries_takes : (bytes : List ℕ) (reply : Reply) (rest : List ℕ) → IsBytes bytes → listing_at bytes ≡ Some (reply, rest) → Says 2 bytes (reply, rest)
unfolding listing_at
entries_takes bytes reply rest fits read =
    let a = bind_some (byte_at bytes) (λ b. more_of b.0 >>= λ more. number_at 8 b.1 >>= λ n. list_at n.0 n.1 >>= λ list. Some (Entries list.0 more, list.1)) (reply, rest) read in
    let m = bind_some (more_of a.0.0) (λ more. number_at 8 a.0.1 >>= λ n. list_at n.0 n.1 >>= λ list. Some (Entries list.0 more, list.1)) (reply, rest) a.2 in
    let n = bind_some (number_at 8 a.0.1) (λ n. list_at n.0 n.1 >>= λ list. Some (Entries list.0 m.0, list.1)) (reply, rest) m.2 in
    let l = bind_some (list_at n.0.0 n.0.1) (λ list. Some (Entries list.0 m.0, list.1)) (reply, rest) n.2 in
    let t0 = byte_takes bytes a.0.0 a.0.1 fits a.1 in
    let t1 = number_takes 8 width_8 a.0.1 n.0.0 n.0.1 t0.rest_fits n.1 in
    let t2 = list_takes listed_takes n.0.0 n.0.1 l.0.0 l.0.1 t1.0.rest_fits l.1 in
    said_of 2 bytes (Entries l.0.0 m.0) reply l.0.1 rest l.2
    (entries_joined bytes a.0.1 n.0.1 l.0.1 a.0.0 n.0.0 m.0 l.0.0 (more_takes a.0.0 m.0 m.1) (omega (arith, t1.1)) t2.0 t2.1 t0 t1.0 t2.2)

said_takes : (kind : ℕ) (bytes : List ℕ) (reply : Reply) (rest : List ℕ) → IsBytes bytes → said_at kind bytes ≡ Some (reply, rest) → Says kind bytes (reply, rest)
said_takes kind bytes reply rest fits read = go (eqb kind 1) (eqb kind 2) (eqb kind 3) (eqb kind 4) (eqb kind 5) refl refl refl refl refl read
  where
    P : ℕ → Type 0
    P k = Says k bytes (reply, rest)

    go : (a b c d e : Bool) → eqb kind 1 ≡ a → eqb kind 2 ≡ b → eqb kind 3 ≡ c → eqb kind 4 ≡ d → eqb kind 5 ≡ e
        → cond a (found_at bytes) (cond b (listing_at bytes) (cond c (link_at bytes) (cond d (Some (Done, bytes)) (cond e (errno_at bytes) None)))) ≡ Some (reply, rest) → P kind
    go true b c d e ha hb hc hd he read = subst P (sym (eqb-true kind 1 ha)) (entry_takes bytes reply rest fits read)
    go false true c d e ha hb hc hd he read = subst P (sym (eqb-true kind 2 hb)) (entries_takes bytes reply rest fits read)
    go false false true d e ha hb hc hd he read = subst P (sym (eqb-true kind 3 hc)) (link_takes bytes reply rest fits read)
    go false false false true e ha hb hc hd he read = subst P (sym (eqb-true kind 4 hd)) (said_of 4 bytes Done reply bytes rest read (tt, record { parts = refl; rest_fits = fits }))
    go false false false false true ha hb hc hd he read = subst P (sym (eqb-true kind 5 he)) (errno_takes bytes reply rest fits read)
    go false false false false false ha hb hc hd he read = absurd cc

pub reply_takes : (bytes : List ℕ) (reply : Reply) (rest : List ℕ) → IsBytes bytes → reply_at bytes ≡ Some (reply, rest) → IsReply reply × Takes bytes (reply_bytes reply) rest
unfolding reply_at
reply_takes bytes reply rest fits read =
    let a = bind_some (byte_at bytes) (λ kind. said_at kind.0 kind.1) (reply, rest) read in
    let t = byte_takes bytes a.0.0 a.0.1 fits a.1 in
    let s = said_takes a.0.0 a.0.1 reply rest t.rest_fits a.2 in
    (s.0, record { parts = t.parts ∙ s.1.parts; rest_fits = s.1.rest_fits })
