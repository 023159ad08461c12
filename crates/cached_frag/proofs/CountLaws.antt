-- The entries of names that lie over nothing are the present ones.
use Rattle.cached_frag.proofs.Common.{Bool, EntryCounts, Inode, List, Mark, Marks, None, Option, Some, [], ap, arith, cond, counts_of, dirs_among, dirs_in, false, files_among, files_in, filter, is_dir, is_dir_kind, is_file, len-entries, length, not, patched, refl, sym, true, ℕ, ◌+◌, ◌∙◌, ◌∷◌, ◌≡◌, ◌≤◌}
use Rattle.std.specs.FinMap as map
use Rattle.cached_frag.proofs.MarkLaws.{entries-fresh, present, with_present}

counted_one : {A : Type 0} (b : Bool) (x : A) (rest : List A) (n : ℕ) → length rest ≡ n → length (cond b (x ∷ rest) rest) ≡ cond b 1 0 + n
counted_one true x rest n e = omega (arith, e)
counted_one false x rest n e = omega (arith, e)

dir_one : (name : List ℕ) (inode : Option Inode) (rest : List (List ℕ × Inode)) (n : ℕ) → length (filter (λ (e : List ℕ × Inode). is_dir_kind e.1.kind) rest) ≡ n
    → length (filter (λ (e : List ℕ × Inode). is_dir_kind e.1.kind) (with_present name inode rest)) ≡ cond (is_dir inode) 1 0 + n
dir_one name (Some inode) rest n e = counted_one (is_dir_kind inode.kind) (name, inode) (filter (λ (e : List ℕ × Inode). is_dir_kind e.1.kind) rest) n e
dir_one name None rest n e = omega (arith, e)

file_one : (name : List ℕ) (inode : Option Inode) (rest : List (List ℕ × Inode)) (n : ℕ) → length (filter (λ (e : List ℕ × Inode). not (is_dir_kind e.1.kind)) rest) ≡ n
    → length (filter (λ (e : List ℕ × Inode). not (is_dir_kind e.1.kind)) (with_present name inode rest)) ≡ cond (is_file inode) 1 0 + n
file_one name (Some inode) rest n e = counted_one (not (is_dir_kind inode.kind)) (name, inode) (filter (λ (e : List ℕ × Inode). not (is_dir_kind e.1.kind)) rest) n e
file_one name None rest n e = omega (arith, e)

dirs_counted : (es : List (List ℕ × Mark)) → length (filter (λ (e : List ℕ × Inode). is_dir_kind e.1.kind) (present es)) ≡ dirs_among es
dirs_counted [] = refl
dirs_counted (e ∷ es) = dir_one e.0 e.1.inode (present es) (dirs_among es) (dirs_counted es)

files_counted : (es : List (List ℕ × Mark)) → length (filter (λ (e : List ℕ × Inode). not (is_dir_kind e.1.kind)) (present es)) ≡ files_among es
files_counted [] = refl
files_counted (e ∷ es) = file_one e.0 e.1.inode (present es) (files_among es) (files_counted es)

pub counted : (marks : Marks) (counts : EntryCounts) → counts.files ≡ files_among (map.entries marks) → counts.dirs ≡ dirs_among (map.entries marks) → counts ≡ counts_of (patched map.empty marks)
counted marks counts f d =
    let files : counts.files ≡ files_in (patched map.empty marks) =
    f ∙ sym (files_counted (map.entries marks)) ∙ sym (ap (λ (es : List (List ℕ × Inode)). length (filter (λ (e : List ℕ × Inode). not (is_dir_kind e.1.kind)) es)) (entries-fresh marks)) in
    let dirs : counts.dirs ≡ dirs_in (patched map.empty marks) =
    d ∙ sym (dirs_counted (map.entries marks)) ∙ sym (ap (λ (es : List (List ℕ × Inode)). length (filter (λ (e : List ℕ × Inode). is_dir_kind e.1.kind) es)) (entries-fresh marks)) in
    λ i. record { files = files i; dirs = dirs i }

pub at_first : (marks : Marks) (es : List (List ℕ × Mark)) → es ≡ map.entries marks
    → (0 + files_among es ≡ files_among (map.entries marks)) × (0 + dirs_among es ≡ dirs_among (map.entries marks)) × (0 + 0 + length es ≤ map.len marks)
at_first marks es is =
    let files : files_among es ≡ files_among (map.entries marks) = ap files_among is in
    let dirs : dirs_among es ≡ dirs_among (map.entries marks) = ap dirs_among is in
    let count : length es ≡ length (map.entries marks) = ap (length {A = List ℕ × Mark}) is in
    (omega (arith, files), omega (arith, dirs), omega (arith, count, len-entries marks))

pub files_at_last : (n : ℕ) (left : List (List ℕ × Mark)) (all : ℕ) → left ≡ [] → n + files_among left ≡ all → n ≡ all
files_at_last n left all none is = let rest : files_among left ≡ 0 = ap files_among none in omega (arith, rest, is)

pub dirs_at_last : (n : ℕ) (left : List (List ℕ × Mark)) (all : ℕ) → left ≡ [] → n + dirs_among left ≡ all → n ≡ all
dirs_at_last n left all none is = let rest : dirs_among left ≡ 0 = ap dirs_among none in omega (arith, rest, is)
