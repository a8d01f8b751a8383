-- Trimming as the code does it: how many bytes of white space stand at the start of a row of bytes and, by the reverse, at its end.
-- `White` says what is trimmed, `proofs/TrimLanguage` that the two agree. Assumes nothing.
use Rattle.std.specs.Prelude.{List, [], ◌∷◌, reverse, Bool, true, false, ℕ, zero, suc, ◌-◌, ltb, eqb, length, get_or, take, drop}
use Rattle.base.specs.Said.{pick}

-- White_Space of one byte
abbrev pub white1 : ℕ → Bool
white1 b = pick (ltb b 9) false (pick (ltb b 14) true (eqb b 32))

-- of two: U+0085, 00A0
abbrev pub white2 : ℕ → ℕ → Bool
white2 b c = pick (eqb b 194) (pick (eqb c 133) true (eqb c 160)) false

-- what E2 80 starts: U+2000-200A, 2028, 2029, 202F
abbrev pub general : ℕ → Bool
general d = pick (ltb d 128) false (pick (ltb d 139) true (pick (eqb d 168) true (pick (eqb d 169) true (eqb d 175))))

-- of three: U+1680, those, 205F, 3000
abbrev pub white3 : ℕ → ℕ → ℕ → Bool
white3 b c d =
    pick (eqb b 225) (pick (eqb c 154) (eqb d 128) false)
    (pick (eqb b 226) (pick (eqb c 128) (general d) (pick (eqb c 129) (eqb d 159) false))
    (pick (eqb b 227) (pick (eqb c 128) (eqb d 128) false) false))

-- the same bytes, read from the end
abbrev pub back2 : ℕ → ℕ → Bool
back2 b c = white2 c b

abbrev pub back3 : ℕ → ℕ → ℕ → Bool
back3 b c d = white3 d c b

-- how many bytes a white character has, by whether one, two or three bytes are one; 0 if none are
abbrev pub white_width : Bool → Bool → Bool → ℕ
white_width one two three = pick one 1 (pick two 2 (pick three 3 0))

-- how long the white character is that t starts with; 0 if it starts with none (past the end stands 0, which is in none)
unfoldable pub width_by : (ℕ → ℕ → Bool) → (ℕ → ℕ → ℕ → Bool) → List ℕ → ℕ
width_by two three t =
    white_width (white1 (get_or t 0 0)) (two (get_or t 0 0) (get_or t 1 0)) (three (get_or t 0 0) (get_or t 1 0) (get_or t 2 0))

-- at the start, and at the end of what is read backwards
abbrev pub front : List ℕ → ℕ
front = width_by white2 white3

abbrev pub back : List ℕ → ℕ
back = width_by back2 back3

-- how many bytes the characters at the start take, where `width` gives one's length and 0 for none; k bytes of one are still to pass
unfoldable pub run : (List ℕ → ℕ) → ℕ → List ℕ → ℕ
run width k [] = 0
run width (suc k) (b ∷ s) = suc (run width k s)
run width zero (b ∷ s) = pick (eqb (width (b ∷ s)) 0) 0 (suc (run width (width (b ∷ s) - 1) s))

-- s without the characters at its end
abbrev pub keep_by : (List ℕ → ℕ) → List ℕ → List ℕ
keep_by end s = take (length s - run end 0 (reverse s)) s

-- s without the characters at both ends
abbrev pub trim_by : (List ℕ → ℕ) → (List ℕ → ℕ) → List ℕ → List ℕ
trim_by start end s = keep_by end (drop (run start 0 s) s)
