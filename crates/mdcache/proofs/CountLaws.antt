-- Refusals that are no fault of a store: a call that is refused so tells none.
use Rattle.mdcache.proofs.Common.{Begins, Homes, Ino, Job, Leaf, MayNotBeginJob, MayNotRegroup, Option, Refusal, RefusesLeaves, Result, State, StoreFault, faults_in, faults_told, refl, result_err, rules, ℕ, ◌≡◌}

-- each refusal but one is no fault
pub free : (reason : Refusal) → (reason ≡ StoreFault → ⊥) → faults_in reason ≡ 0
free StoreFault other = absurd (other refl)
free _ other = refl

-- refused by the leaves of a directory
pub leaves_free : (Refuses : Refusal → Type 0) → (Refuses StoreFault → ⊥) → (homes : Homes) (dir : Ino) (reason : Refusal)
    → RefusesLeaves Refuses homes dir reason → faults_in reason ≡ 0
leaves_free Refuses never homes dir reason is = search (rules, free)

-- refused before anything is read
pub regroup_free : (Can : Type 0) (Refuses : Refusal → Type 0) → (Refuses StoreFault → ⊥)
    → (s : State) (dir : Ino) (count : ℕ) (NoPlace : Type 0) (n : ℕ) (reason : Refusal) → MayNotRegroup Can Refuses s dir count NoPlace n n reason → faults_in reason ≡ 0
regroup_free Can Refuses never s dir count NoPlace n reason is = search (rules, free)

-- no commit begins
begin_free : (s : State) (leaf : Leaf) (reason : Refusal) → MayNotBeginJob s leaf reason → faults_in reason ≡ 0
begin_free s leaf reason is = search (rules, free)

pub begun_free : (old new : State) (leaf : Leaf) (result : Result (Option Job) Refusal) → Begins old new leaf result
    → faults_told (result_err result) ≡ 0
begun_free old new leaf result h = search (rules, begin_free)
