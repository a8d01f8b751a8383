-- One place more of the columns of a scale: what has been written is the places before it, and then its own fields.
use Rattle.std.proofs.Common.{◌≡◌, ℕ, ◌+◌, suc, List, ℤ, pos, arith, slice_index, slice_index_or, subst}
use Rattle.std.proofs.KnownBytes.{Appends-trans}
use Rattle.std.specs.Io.KnownBytes.{Appends}
use Rattle.std.specs.declared.option.Option.{Option}
use Rattle.say.specs.Said.{place_fields, places_fields}
use lib.Ieee.{Float, nan}

pub places_step : (old mid new : Option (List ℕ)) (kind : List ℕ) (cents : List Float) (numer denom place : List ℕ) (ratio : List Float) (wraps : List ℤ) (k : ℕ)
    → Appends old mid (places_fields kind cents numer denom place ratio wraps k)
    → Appends mid new (place_fields (slice_index kind k) (slice_index_or cents k nan) (slice_index numer k) (slice_index denom k)
    (slice_index place k) (slice_index_or ratio k nan) (slice_index_or wraps k (pos 0)))
    → Appends old new (places_fields kind cents numer denom place ratio wraps (k + 1))
unfolding places_fields
places_step old mid new kind cents numer denom place ratio wraps k before more =
    let next : suc k ≡ k + 1 = omega arith in
    subst (λ n. Appends old new (places_fields kind cents numer denom place ratio wraps n)) next (Appends-trans _ _ _ _ _ before more)
