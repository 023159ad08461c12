-- A rank's inbox as the list of its requests, the front first.
use Rattle.std.specs.Prelude.{◌≡◌, ◌==◌, ◌&&◌, ℕ, Bool, ◌++◌, ◌∷◌, [], List, Option, Some, None}
use Rattle.std.specs.List.{find}
use Rattle.mds_types.specs.declared.requests.Request.{Request}

-- the front is taken
abbrev pub TakesFront : List Request → List Request → Option Request → Type 0
TakesFront old new None = (old ≡ []) × (new ≡ [])
TakesFront old new (Some request) = old ≡ request ∷ new

-- the front has gone behind all others
abbrev pub rotated : List Request → List Request
rotated [] = []
rotated (request ∷ rest) = rest ++ request ∷ []

-- whether a request is of this client and transaction number
abbrev pub is_of : (client tid : ℕ) → Request → Bool
is_of client tid request = (request.client == client) && (request.tid == tid)

-- the first request of this client and transaction number
abbrev pub first_of : (client tid : ℕ) → List Request → Option Request
first_of client tid waiting = find (is_of client tid) waiting
