-- The result is what stands at its place of the table.
-- No loop; each arm is an entry of the list `root_2`, by `root_2_at`, and no number below 64 is left for the last.
use lib.Dec.{lit<}
use mathlib.Core.Path.{◌∙◌}
use Rattle.log_roots.proofs.Rows.{root_2, root_2_at}
use Rattle.log_roots.proofs.root_2_at.Goals as goal

pub returns-in-0 : goal.returns-in-0
unfolding root_2
returns-in-0 c h e = root_2_at h 0 (e ∙ c.in-0.is) (lit< tt)

pub returns-in-1 : goal.returns-in-1
unfolding root_2
returns-in-1 c h e = root_2_at h 1 (e ∙ c.in-1.is) (lit< tt)

pub returns-in-2 : goal.returns-in-2
unfolding root_2
returns-in-2 c h e = root_2_at h 2 (e ∙ c.in-2.is) (lit< tt)

pub returns-in-3 : goal.returns-in-3
unfolding root_2
returns-in-3 c h e = root_2_at h 3 (e ∙ c.in-3.is) (lit< tt)

pub returns-in-4 : goal.returns-in-4
unfolding root_2
returns-in-4 c h e = root_2_at h 4 (e ∙ c.in-4.is) (lit< tt)

pub returns-in-5 : goal.returns-in-5
unfolding root_2
returns-in-5 c h e = root_2_at h 5 (e ∙ c.in-5.is) (lit< tt)

pub returns-in-6 : goal.returns-in-6
unfolding root_2
returns-in-6 c h e = root_2_at h 6 (e ∙ c.in-6.is) (lit< tt)

pub returns-in-7 : goal.returns-in-7
unfolding root_2
returns-in-7 c h e = root_2_at h 7 (e ∙ c.in-7.is) (lit< tt)

pub returns-in-8 : goal.returns-in-8
unfolding root_2
returns-in-8 c h e = root_2_at h 8 (e ∙ c.in-8.is) (lit< tt)

pub returns-in-9 : goal.returns-in-9
unfolding root_2
returns-in-9 c h e = root_2_at h 9 (e ∙ c.in-9.is) (lit< tt)

pub returns-in-10 : goal.returns-in-10
unfolding root_2
returns-in-10 c h e = root_2_at h 10 (e ∙ c.in-10.is) (lit< tt)

pub returns-in-11 : goal.returns-in-11
unfolding root_2
returns-in-11 c h e = root_2_at h 11 (e ∙ c.in-11.is) (lit< tt)

pub returns-in-12 : goal.returns-in-12
unfolding root_2
returns-in-12 c h e = root_2_at h 12 (e ∙ c.in-12.is) (lit< tt)

pub returns-in-13 : goal.returns-in-13
unfolding root_2
returns-in-13 c h e = root_2_at h 13 (e ∙ c.in-13.is) (lit< tt)

pub returns-in-14 : goal.returns-in-14
unfolding root_2
returns-in-14 c h e = root_2_at h 14 (e ∙ c.in-14.is) (lit< tt)

pub returns-in-15 : goal.returns-in-15
unfolding root_2
returns-in-15 c h e = root_2_at h 15 (e ∙ c.in-15.is) (lit< tt)

pub returns-in-16 : goal.returns-in-16
unfolding root_2
returns-in-16 c h e = root_2_at h 16 (e ∙ c.in-16.is) (lit< tt)

pub returns-in-17 : goal.returns-in-17
unfolding root_2
returns-in-17 c h e = root_2_at h 17 (e ∙ c.in-17.is) (lit< tt)

pub returns-in-18 : goal.returns-in-18
unfolding root_2
returns-in-18 c h e = root_2_at h 18 (e ∙ c.in-18.is) (lit< tt)

pub returns-in-19 : goal.returns-in-19
unfolding root_2
returns-in-19 c h e = root_2_at h 19 (e ∙ c.in-19.is) (lit< tt)

pub returns-in-20 : goal.returns-in-20
unfolding root_2
returns-in-20 c h e = root_2_at h 20 (e ∙ c.in-20.is) (lit< tt)

pub returns-in-21 : goal.returns-in-21
unfolding root_2
returns-in-21 c h e = root_2_at h 21 (e ∙ c.in-21.is) (lit< tt)

pub returns-in-22 : goal.returns-in-22
unfolding root_2
returns-in-22 c h e = root_2_at h 22 (e ∙ c.in-22.is) (lit< tt)

pub returns-in-23 : goal.returns-in-23
unfolding root_2
returns-in-23 c h e = root_2_at h 23 (e ∙ c.in-23.is) (lit< tt)

pub returns-in-24 : goal.returns-in-24
unfolding root_2
returns-in-24 c h e = root_2_at h 24 (e ∙ c.in-24.is) (lit< tt)

pub returns-in-25 : goal.returns-in-25
unfolding root_2
returns-in-25 c h e = root_2_at h 25 (e ∙ c.in-25.is) (lit< tt)

pub returns-in-26 : goal.returns-in-26
unfolding root_2
returns-in-26 c h e = root_2_at h 26 (e ∙ c.in-26.is) (lit< tt)

pub returns-in-27 : goal.returns-in-27
unfolding root_2
returns-in-27 c h e = root_2_at h 27 (e ∙ c.in-27.is) (lit< tt)

pub returns-in-28 : goal.returns-in-28
unfolding root_2
returns-in-28 c h e = root_2_at h 28 (e ∙ c.in-28.is) (lit< tt)

pub returns-in-29 : goal.returns-in-29
unfolding root_2
returns-in-29 c h e = root_2_at h 29 (e ∙ c.in-29.is) (lit< tt)

pub returns-in-30 : goal.returns-in-30
unfolding root_2
returns-in-30 c h e = root_2_at h 30 (e ∙ c.in-30.is) (lit< tt)

pub returns-in-31 : goal.returns-in-31
unfolding root_2
returns-in-31 c h e = root_2_at h 31 (e ∙ c.in-31.is) (lit< tt)

pub returns-in-32 : goal.returns-in-32
unfolding root_2
returns-in-32 c h e = root_2_at h 32 (e ∙ c.in-32.is) (lit< tt)

pub returns-in-33 : goal.returns-in-33
unfolding root_2
returns-in-33 c h e = root_2_at h 33 (e ∙ c.in-33.is) (lit< tt)

pub returns-in-34 : goal.returns-in-34
unfolding root_2
returns-in-34 c h e = root_2_at h 34 (e ∙ c.in-34.is) (lit< tt)

pub returns-in-35 : goal.returns-in-35
unfolding root_2
returns-in-35 c h e = root_2_at h 35 (e ∙ c.in-35.is) (lit< tt)

pub returns-in-36 : goal.returns-in-36
unfolding root_2
returns-in-36 c h e = root_2_at h 36 (e ∙ c.in-36.is) (lit< tt)

pub returns-in-37 : goal.returns-in-37
unfolding root_2
returns-in-37 c h e = root_2_at h 37 (e ∙ c.in-37.is) (lit< tt)

pub returns-in-38 : goal.returns-in-38
unfolding root_2
returns-in-38 c h e = root_2_at h 38 (e ∙ c.in-38.is) (lit< tt)

pub returns-in-39 : goal.returns-in-39
unfolding root_2
returns-in-39 c h e = root_2_at h 39 (e ∙ c.in-39.is) (lit< tt)

pub returns-in-40 : goal.returns-in-40
unfolding root_2
returns-in-40 c h e = root_2_at h 40 (e ∙ c.in-40.is) (lit< tt)

pub returns-in-41 : goal.returns-in-41
unfolding root_2
returns-in-41 c h e = root_2_at h 41 (e ∙ c.in-41.is) (lit< tt)

pub returns-in-42 : goal.returns-in-42
unfolding root_2
returns-in-42 c h e = root_2_at h 42 (e ∙ c.in-42.is) (lit< tt)

pub returns-in-43 : goal.returns-in-43
unfolding root_2
returns-in-43 c h e = root_2_at h 43 (e ∙ c.in-43.is) (lit< tt)

pub returns-in-44 : goal.returns-in-44
unfolding root_2
returns-in-44 c h e = root_2_at h 44 (e ∙ c.in-44.is) (lit< tt)

pub returns-in-45 : goal.returns-in-45
unfolding root_2
returns-in-45 c h e = root_2_at h 45 (e ∙ c.in-45.is) (lit< tt)

pub returns-in-46 : goal.returns-in-46
unfolding root_2
returns-in-46 c h e = root_2_at h 46 (e ∙ c.in-46.is) (lit< tt)

pub returns-in-47 : goal.returns-in-47
unfolding root_2
returns-in-47 c h e = root_2_at h 47 (e ∙ c.in-47.is) (lit< tt)

pub returns-in-48 : goal.returns-in-48
unfolding root_2
returns-in-48 c h e = root_2_at h 48 (e ∙ c.in-48.is) (lit< tt)

pub returns-in-49 : goal.returns-in-49
unfolding root_2
returns-in-49 c h e = root_2_at h 49 (e ∙ c.in-49.is) (lit< tt)

pub returns-in-50 : goal.returns-in-50
unfolding root_2
returns-in-50 c h e = root_2_at h 50 (e ∙ c.in-50.is) (lit< tt)

pub returns-in-51 : goal.returns-in-51
unfolding root_2
returns-in-51 c h e = root_2_at h 51 (e ∙ c.in-51.is) (lit< tt)

pub returns-in-52 : goal.returns-in-52
unfolding root_2
returns-in-52 c h e = root_2_at h 52 (e ∙ c.in-52.is) (lit< tt)

pub returns-in-53 : goal.returns-in-53
unfolding root_2
returns-in-53 c h e = root_2_at h 53 (e ∙ c.in-53.is) (lit< tt)

pub returns-in-54 : goal.returns-in-54
unfolding root_2
returns-in-54 c h e = root_2_at h 54 (e ∙ c.in-54.is) (lit< tt)

pub returns-in-55 : goal.returns-in-55
unfolding root_2
returns-in-55 c h e = root_2_at h 55 (e ∙ c.in-55.is) (lit< tt)

pub returns-in-56 : goal.returns-in-56
unfolding root_2
returns-in-56 c h e = root_2_at h 56 (e ∙ c.in-56.is) (lit< tt)

pub returns-in-57 : goal.returns-in-57
unfolding root_2
returns-in-57 c h e = root_2_at h 57 (e ∙ c.in-57.is) (lit< tt)

pub returns-in-58 : goal.returns-in-58
unfolding root_2
returns-in-58 c h e = root_2_at h 58 (e ∙ c.in-58.is) (lit< tt)

pub returns-in-59 : goal.returns-in-59
unfolding root_2
returns-in-59 c h e = root_2_at h 59 (e ∙ c.in-59.is) (lit< tt)

pub returns-in-60 : goal.returns-in-60
unfolding root_2
returns-in-60 c h e = root_2_at h 60 (e ∙ c.in-60.is) (lit< tt)

pub returns-in-61 : goal.returns-in-61
unfolding root_2
returns-in-61 c h e = root_2_at h 61 (e ∙ c.in-61.is) (lit< tt)

pub returns-in-62 : goal.returns-in-62
unfolding root_2
returns-in-62 c h e = root_2_at h 62 (e ∙ c.in-62.is) (lit< tt)

pub returns-in-63 : goal.returns-in-63
unfolding root_2
returns-in-63 c h e = root_2_at h 63 (e ∙ c.in-63.is) (lit< tt)
