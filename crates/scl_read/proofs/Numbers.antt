-- What `read_scl` says is a scale or one of document 01's numbers. Assumes nothing.
use Rattle.base.specs.declared.Reason.{Reason}
use Rattle.base.specs.declared.Reason.TheVariants as reason
use Rattle.base.specs.Numbers.{number_of}
use Rattle.std.specs.Prelude.{Some, None, Ok, Err, Result, Float}
use mathlib.Core.Bool.{Bool, true, false}
use mathlib.Core.List.{List, [], ◌∷◌}
use Prim.Native.Nat.{ℕ, zero, suc, ◌+◌, ◌^◌, ◌≤◌}
use native.Mathlib.Omega.{arith}
use lib.Dec.{leb, ltb, eqb}
use lib.IntN.{nat_abs}
use lib.ListN.{length, take, drop}
use Rattle.base.specs.Numbers.{int_value}
use Rattle.base.specs.Said.{Numbered, pick}
use Rattle.base.proofs.Said.{numbered_pick, numbered_then}
use Rattle.decimals.specs.DecimalScan.{read_decimal}
use Rattle.decimals.specs.declared.DecimalError.{DecimalError}
use Rattle.decimals.specs.declared.DecimalError.TheVariants as decimal
use Rattle.integers.specs.AtLine.{int_at}
use Rattle.integers.specs.Integer.{Int, value, none, read_int}
use Rattle.listing.specs.Reader.{walk_lines}
use Rattle.scl.specs.Items.{is_usable}
use Rattle.scl.specs.declared.Item.{Item}
use Rattle.scl.specs.declared.Item.TheVariants.{Cents, Fraction}
use Rattle.scl_read.specs.Tokens.{position_of, usable_item, cents_in, over_denom, fraction_in, whole_in, slashed_in, item_in}
use Rattle.scl_tables.specs.Build.{is_beyond}
use Rattle.text.specs.ReadLine.{said_in}
use Rattle.text.specs.Reading.{Meaning, invalid, blank, comment, content}
use Rattle.scl_read.specs.Reader.{item_placed, take_due, take_token, take_meaning, which_of, finished, walk, unread, scale_read, read_of}
use Rattle.scl_read.specs.declared.line.Due.{Due}
use Rattle.scl_read.specs.declared.line.Due.TheVariants as due
use Rattle.scl_read.specs.declared.line.State.{State}

-- ---- an item, or a number of 01's
abbrev Known : (Result Item Reason) → Type 0
Known (Ok i) = Unit {0}
Known (Err r) = (1 ≤ number_of r) × (number_of r ≤ 18)

pick_known : (b : Bool) (x y : (Result Item Reason)) → Known x → Known y → Known (pick b x y)
pick_known true x y h k = h
pick_known false x y h k = k

usable_known : (i : Item) → Known (usable_item i)
usable_known i = pick_known (is_usable i) (Ok i) (Err reason.Unusable) tt (omega arith, omega arith)

cents_known : (x : (Result Float DecimalError)) → Known (cents_in x)
cents_known (Ok v) = usable_known (Cents v)
cents_known (Err decimal.Unsupported) = (omega arith, omega arith)
cents_known (Err decimal.Bad) = (omega arith, omega arith)

denom_known : (n : ℕ) (d : Int) → Known (over_denom n d)
denom_known n (value z) = usable_known (Fraction n (Some (nat_abs z)))
denom_known n none = (omega arith, omega arith)

fraction_known : (n d : Int) → Known (fraction_in n d)
fraction_known (value z) d = denom_known (nat_abs z) d
fraction_known none d = (omega arith, omega arith)

whole_known : (n : Int) → Known (whole_in n)
whole_known (value z) = usable_known (Fraction (nat_abs z) None)
whole_known none = (omega arith, omega arith)

slashed_known : (t : List ℕ) (k : ℕ) → Known (slashed_in t k)
slashed_known t k =
    let n = read_int false (2 ^ 32) (take k t) in
    let d = read_int false (2 ^ 32) (drop (k + 1) t) in
    let w = read_int false (2 ^ 32) t in
    pick_known (ltb k (length t)) (fraction_in n d) (whole_in w) (fraction_known n d) (whole_known w)

item_known : (t : List ℕ) → Known (item_in t)
unfolding item_in
item_known t =
    pick_known (ltb (position_of 46 t) (length t)) (cents_in (read_decimal t)) (slashed_in t (position_of 47 t)) (cents_known (read_decimal t)) (slashed_known t (position_of 47 t))

-- ---- a line
int_numbered : (k : ℕ) (i : Int) → Numbered (int_at int_value k i)
int_numbered k (value z) = Numbered.value z
int_numbered k none = Numbered.number {n = 3} (omega arith) (omega arith)

placed_numbered : (places k : ℕ) (s : State) (r : (Result Item Reason)) → Known r → Numbered (item_placed places k s r)
placed_numbered places k s (Ok i) h = numbered_pick (leb places s.count) (Numbered.number (omega arith) (omega arith)) (Numbered.value _)
placed_numbered places k s (Err n) h = Numbered.number h.0 h.1

due_numbered : (places k : ℕ) (t : List ℕ) (s : State) (d : Due) → Numbered (take_due places k t s d)
due_numbered places k t s due.Description = Numbered.value _
due_numbered places k t s due.Count = numbered_then (int_numbered k (read_int false (2 ^ 16) t)) (λ z. Numbered.value _)
due_numbered places k t s due.Items = placed_numbered places k s (item_in t) (item_known t)

meaning_numbered : (places k : ℕ) (m : Meaning) (s : State) → Numbered (take_meaning places k m s)
unfolding take_token
meaning_numbered places k invalid s = Numbered.number {n = 1} (omega arith) (omega arith)
meaning_numbered places k blank s = Numbered.value s
meaning_numbered places k comment s = Numbered.value s
meaning_numbered places k (content m t) s = due_numbered places k t s s.due

-- ---- the text
finished_numbered : (s : State) → Numbered (finished s)
unfolding finished
finished_numbered s =
    numbered_pick (ltb 0 (which_of s.due)) (Numbered.number (omega arith) (omega arith))
    (numbered_pick (ltb 65535 s.count) (Numbered.number (omega arith) (omega arith))
    (numbered_pick (eqb s.count s.declared)
    (numbered_pick (is_beyond s.count s.last) (Numbered.number (omega arith) (omega arith)) (Numbered.value s.count))
    (Numbered.number (omega arith) (omega arith))))

walk_numbered : (places k : ℕ) (s : State) (ms : List Meaning) → Numbered (walk places k s ms)
unfolding walk_lines
walk_numbered places k s [] = finished_numbered s
walk_numbered places k s (m ∷ ms) = numbered_then (meaning_numbered places k m s) (λ s'. walk_numbered places (k + 1) s' ms)

pub read_scl_numbered : (room : ℕ) (text : List ℕ) → Numbered (read_of room text)
read_scl_numbered zero text = Numbered.number {n = 12} (omega arith) (omega arith)
read_scl_numbered (suc places) text = numbered_then (walk_numbered places 1 unread (said_in text)) (λ n. Numbered.value (scale_read n text))
