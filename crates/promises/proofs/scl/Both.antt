-- Texts of both formats: the export of any scale that comes back is a published text within document 01's limits. Assumes nothing.
use mathlib.Core.Path.{◌≡◌, sym, ◌∙◌, subst}
use mathlib.Core.Bool.{true}
use mathlib.Core.List.{List, [], ◌∷◌}
use Prim.Native.Nat.{ℕ, ◌≤◌}
use lib.ListN.{length}
use Rattle.base.specs.Said.{gives}
use Rattle.scl.specs.Items.{AllHeld}
use Rattle.scl.specs.Table.{implicit, are_usable}
use Rattle.scl.specs.declared.Item.{Item}
use Rattle.scl_read.specs.Language.{ScaleText}
use Rattle.scl_tables.specs.Build.{scale_of}
use Rattle.scl_write.specs.Export.{scale_text}
use Rattle.scl_write.specs.Published as P
use Rattle.scl_write.proofs.Published.{export_published}
use Rattle.sorting.specs.Entries.{Entry}
use Rattle.text.specs.Reading.{Comment}
use Rattle.utf8.specs.Characters.{encode}
use Rattle.white.specs.White.{WhiteSpace, Trimmed}
use Rattle.white.proofs.TrimLanguage.{one_trimmed}
use Rattle.promises.specs.scl.Again.{Described, ComesBack}
use Rattle.promises.specs.scl.Limits.{WithinLimits}
use Rattle.promises.proofs.scl.Agree.{agree}
use Rattle.promises.proofs.scl.Described.{one_line}
use Rattle.promises.proofs.scl.Limits.{published_exactly}
use Rattle.promises.proofs.scl.RoundTrip.{round_trip}

-- a description that comes back is its own trimmed part
module _ (d : List ℕ) (b : Described d) where
  own_part : (c : List ℕ) → Trimmed WhiteSpace encode d c → c ≡ d
  own_part c x = sym (one_trimmed d c x) ∙ one_trimmed d d b.trimmed

  not_blank : Trimmed WhiteSpace encode d [] → ⊥
  not_blank x = b.not_blank (sym (own_part [] x))

  no_mark : (c : List ℕ) → Trimmed WhiteSpace encode d c → Comment c → ⊥
  no_mark c x y = b.no_mark (subst Comment (own_part c x) y)

-- some text is in both
pub in_both : (d : List ℕ) (is : List Item) (list : List Entry) → AllHeld is → are_usable is ≡ true → length is ≤ 65535 → scale_of (implicit ∷ is) ≡ gives list → ComesBack d is →
    (p : P.PublishedText (scale_text d is) (P.published_of d is)) × ScaleText (scale_text d is) d is list × WithinLimits p
in_both d is list f h l o c =
    let b = c.described in
    let p = export_published d is (one_line d b) f h l in
    let a = (round_trip d is list f h l o).1 c in
    (p, a, (published_exactly p).0 (d, is, list, a, agree p (not_blank d b) (no_mark d b) a))
