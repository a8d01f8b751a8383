-- Whether a text is UTF-8, as the code finds it byte by byte. `Characters` says what UTF-8 is, `proofs/Utf8Language` that the two
-- agree. Assumes nothing.
use Rattle.std.specs.Prelude.{List, [], ◌∷◌, Bool, false, ℕ, ◌-◌, ltb, eqb, Some, None, Option}
use Rattle.base.specs.Said.{pick}
use Rattle.utf8.specs.declared.State.{State}

-- so many bytes are due, the next of them from l to h
abbrev pub asking : ℕ → ℕ → ℕ → State
asking n l h = record { need = n; lo = l; hi = h }

-- none is due: between two characters
abbrev pub none_due : State
none_due = asking 0 128 191

-- what a first byte below a number asks, where no earlier entry holds it
pub record LeadRow : Type 0 where
  pub below : ℕ
  pub asks : (Option State)

abbrev pub lead_row : ℕ → (Option State) → LeadRow
lead_row n s = record { below = n; asks = s }

-- what the first entry that b is below asks
abbrev pub lookup : List LeadRow → ℕ → (Option State)
lookup [] b = None
lookup (r ∷ rs) b = pick (ltb b r.below) r.asks (lookup rs b)

-- the well-formed byte sequences (The Unicode Standard, table 3-7), by the first byte
abbrev pub lead_rows : List LeadRow
lead_rows =
    lead_row 128 (Some (asking 0 128 191)) ∷ lead_row 194 None ∷ lead_row 224 (Some (asking 1 128 191)) ∷ lead_row 225 (Some (asking 2 160 191)) ∷
    lead_row 237 (Some (asking 2 128 191)) ∷ lead_row 238 (Some (asking 2 128 159)) ∷ lead_row 240 (Some (asking 2 128 191)) ∷
    lead_row 241 (Some (asking 3 144 191)) ∷ lead_row 244 (Some (asking 3 128 191)) ∷ lead_row 245 (Some (asking 3 128 143)) ∷ []

-- what the first byte of a character asks
unfoldable pub lead_of : ℕ → (Option State)
lead_of b = lookup lead_rows b

-- the state after one more byte
unfoldable pub utf8_step : State → ℕ → (Option State)
utf8_step st b =
    pick (eqb st.need 0) (lead_of b)
    (pick (ltb b st.lo) None (pick (ltb st.hi b) None (Some (asking (st.need - 1) 128 191))))

-- a state goes on; where there is none the text is no UTF-8
abbrev pub onward : (Option State) → (State → Bool) → Bool
onward (Some t) f = f t
onward None f = false

-- whether what is due and the rest are UTF-8
unfoldable pub utf8_from : State → List ℕ → Bool
utf8_from st [] = eqb st.need 0
utf8_from st (b ∷ s) = onward (utf8_step st b) (λ t. utf8_from t s)
