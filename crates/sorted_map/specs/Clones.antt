-- Clones of pairs. Only this crate's own contracts use these words.

module _ {K V : Type 0} where
  abbrev pub ClonePair : (K → K → Type 0) → (V → V → Type 0) → K × V → K × V → Type 0
  ClonePair C D p q = C p.0 q.0 × D p.1 q.1
