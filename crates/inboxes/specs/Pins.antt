-- The pins: which fragment may be changed by another rank than its own, and for which request.
use Rattle.std.specs.Prelude.{◌==◌, ◌&&◌, if◌then◌else◌, ◌++◌, ◌∷◌, [], ℕ, Bool, not, List}
use Rattle.std.specs.List.{filter, list_any}
use Rattle.mds_types.specs.declared.ids.Ino.{Ino}
use Rattle.mds_types.specs.Frag.{Fragment}
use Rattle.inboxes.specs.declared.pins.Pin.{Pin}

-- whether a pin is one of this fragment of a directory
abbrev pub is_on : Ino → Fragment → Pin → Bool
is_on dir frag pin = (pin.dir.0 == dir.0) && ((pin.frag.value == frag.value) && (pin.frag.bits == frag.bits))

-- whether a pin is one of some fragment of a directory
abbrev pub is_grant_in : Ino → Pin → Bool
is_grant_in dir pin = pin.dir.0 == dir.0

-- whether a pin is one for this client and transaction number
abbrev pub is_for : (client tid : ℕ) → Pin → Bool
is_for client tid pin = (pin.client == client) && (pin.tid == tid)

-- whether a pin is this one
abbrev pub is_same_grant : Pin → Pin → Bool
is_same_grant one pin = is_on one.dir one.frag pin && is_for one.client one.tid pin

-- with a pin; one that stands stays as it is
abbrev pub with_grant : List Pin → Pin → List Pin
with_grant pins pin = if list_any (is_same_grant pin) pins then pins else pins ++ pin ∷ []

-- the pins left where those of which a test holds end
abbrev pub left_without : (Pin → Bool) → List Pin → List Pin
left_without ends pins = filter (λ pin. not (ends pin)) pins
