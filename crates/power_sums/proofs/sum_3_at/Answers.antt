-- The result is what stands at its place of the table.
-- No loop; each arm is an entry of the list `sum_3`, by `sum_3_at`, and no number below 64 is left for the last.
use lib.Dec.{lit<}
use mathlib.Core.Path.{◌∙◌}
use Rattle.power_sums.proofs.Rows.{sum_3, sum_3_at}
use Rattle.power_sums.proofs.sum_3_at.Goals as goal

pub returns-in-0 : goal.returns-in-0
unfolding sum_3
returns-in-0 c b e = sum_3_at b 0 (e ∙ c.in-0.is) (lit< tt)

pub returns-in-1 : goal.returns-in-1
unfolding sum_3
returns-in-1 c b e = sum_3_at b 1 (e ∙ c.in-1.is) (lit< tt)

pub returns-in-2 : goal.returns-in-2
unfolding sum_3
returns-in-2 c b e = sum_3_at b 2 (e ∙ c.in-2.is) (lit< tt)

pub returns-in-3 : goal.returns-in-3
unfolding sum_3
returns-in-3 c b e = sum_3_at b 3 (e ∙ c.in-3.is) (lit< tt)

pub returns-in-4 : goal.returns-in-4
unfolding sum_3
returns-in-4 c b e = sum_3_at b 4 (e ∙ c.in-4.is) (lit< tt)

pub returns-in-5 : goal.returns-in-5
unfolding sum_3
returns-in-5 c b e = sum_3_at b 5 (e ∙ c.in-5.is) (lit< tt)

pub returns-in-6 : goal.returns-in-6
unfolding sum_3
returns-in-6 c b e = sum_3_at b 6 (e ∙ c.in-6.is) (lit< tt)

pub returns-in-7 : goal.returns-in-7
unfolding sum_3
returns-in-7 c b e = sum_3_at b 7 (e ∙ c.in-7.is) (lit< tt)

pub returns-in-8 : goal.returns-in-8
unfolding sum_3
returns-in-8 c b e = sum_3_at b 8 (e ∙ c.in-8.is) (lit< tt)

pub returns-in-9 : goal.returns-in-9
unfolding sum_3
returns-in-9 c b e = sum_3_at b 9 (e ∙ c.in-9.is) (lit< tt)

pub returns-in-10 : goal.returns-in-10
unfolding sum_3
returns-in-10 c b e = sum_3_at b 10 (e ∙ c.in-10.is) (lit< tt)

pub returns-in-11 : goal.returns-in-11
unfolding sum_3
returns-in-11 c b e = sum_3_at b 11 (e ∙ c.in-11.is) (lit< tt)

pub returns-in-12 : goal.returns-in-12
unfolding sum_3
returns-in-12 c b e = sum_3_at b 12 (e ∙ c.in-12.is) (lit< tt)

pub returns-in-13 : goal.returns-in-13
unfolding sum_3
returns-in-13 c b e = sum_3_at b 13 (e ∙ c.in-13.is) (lit< tt)

pub returns-in-14 : goal.returns-in-14
unfolding sum_3
returns-in-14 c b e = sum_3_at b 14 (e ∙ c.in-14.is) (lit< tt)

pub returns-in-15 : goal.returns-in-15
unfolding sum_3
returns-in-15 c b e = sum_3_at b 15 (e ∙ c.in-15.is) (lit< tt)

pub returns-in-16 : goal.returns-in-16
unfolding sum_3
returns-in-16 c b e = sum_3_at b 16 (e ∙ c.in-16.is) (lit< tt)

pub returns-in-17 : goal.returns-in-17
unfolding sum_3
returns-in-17 c b e = sum_3_at b 17 (e ∙ c.in-17.is) (lit< tt)

pub returns-in-18 : goal.returns-in-18
unfolding sum_3
returns-in-18 c b e = sum_3_at b 18 (e ∙ c.in-18.is) (lit< tt)

pub returns-in-19 : goal.returns-in-19
unfolding sum_3
returns-in-19 c b e = sum_3_at b 19 (e ∙ c.in-19.is) (lit< tt)

pub returns-in-20 : goal.returns-in-20
unfolding sum_3
returns-in-20 c b e = sum_3_at b 20 (e ∙ c.in-20.is) (lit< tt)

pub returns-in-21 : goal.returns-in-21
unfolding sum_3
returns-in-21 c b e = sum_3_at b 21 (e ∙ c.in-21.is) (lit< tt)

pub returns-in-22 : goal.returns-in-22
unfolding sum_3
returns-in-22 c b e = sum_3_at b 22 (e ∙ c.in-22.is) (lit< tt)

pub returns-in-23 : goal.returns-in-23
unfolding sum_3
returns-in-23 c b e = sum_3_at b 23 (e ∙ c.in-23.is) (lit< tt)

pub returns-in-24 : goal.returns-in-24
unfolding sum_3
returns-in-24 c b e = sum_3_at b 24 (e ∙ c.in-24.is) (lit< tt)

pub returns-in-25 : goal.returns-in-25
unfolding sum_3
returns-in-25 c b e = sum_3_at b 25 (e ∙ c.in-25.is) (lit< tt)

pub returns-in-26 : goal.returns-in-26
unfolding sum_3
returns-in-26 c b e = sum_3_at b 26 (e ∙ c.in-26.is) (lit< tt)

pub returns-in-27 : goal.returns-in-27
unfolding sum_3
returns-in-27 c b e = sum_3_at b 27 (e ∙ c.in-27.is) (lit< tt)

pub returns-in-28 : goal.returns-in-28
unfolding sum_3
returns-in-28 c b e = sum_3_at b 28 (e ∙ c.in-28.is) (lit< tt)

pub returns-in-29 : goal.returns-in-29
unfolding sum_3
returns-in-29 c b e = sum_3_at b 29 (e ∙ c.in-29.is) (lit< tt)

pub returns-in-30 : goal.returns-in-30
unfolding sum_3
returns-in-30 c b e = sum_3_at b 30 (e ∙ c.in-30.is) (lit< tt)

pub returns-in-31 : goal.returns-in-31
unfolding sum_3
returns-in-31 c b e = sum_3_at b 31 (e ∙ c.in-31.is) (lit< tt)

pub returns-in-32 : goal.returns-in-32
unfolding sum_3
returns-in-32 c b e = sum_3_at b 32 (e ∙ c.in-32.is) (lit< tt)

pub returns-in-33 : goal.returns-in-33
unfolding sum_3
returns-in-33 c b e = sum_3_at b 33 (e ∙ c.in-33.is) (lit< tt)

pub returns-in-34 : goal.returns-in-34
unfolding sum_3
returns-in-34 c b e = sum_3_at b 34 (e ∙ c.in-34.is) (lit< tt)

pub returns-in-35 : goal.returns-in-35
unfolding sum_3
returns-in-35 c b e = sum_3_at b 35 (e ∙ c.in-35.is) (lit< tt)

pub returns-in-36 : goal.returns-in-36
unfolding sum_3
returns-in-36 c b e = sum_3_at b 36 (e ∙ c.in-36.is) (lit< tt)

pub returns-in-37 : goal.returns-in-37
unfolding sum_3
returns-in-37 c b e = sum_3_at b 37 (e ∙ c.in-37.is) (lit< tt)

pub returns-in-38 : goal.returns-in-38
unfolding sum_3
returns-in-38 c b e = sum_3_at b 38 (e ∙ c.in-38.is) (lit< tt)

pub returns-in-39 : goal.returns-in-39
unfolding sum_3
returns-in-39 c b e = sum_3_at b 39 (e ∙ c.in-39.is) (lit< tt)

pub returns-in-40 : goal.returns-in-40
unfolding sum_3
returns-in-40 c b e = sum_3_at b 40 (e ∙ c.in-40.is) (lit< tt)

pub returns-in-41 : goal.returns-in-41
unfolding sum_3
returns-in-41 c b e = sum_3_at b 41 (e ∙ c.in-41.is) (lit< tt)

pub returns-in-42 : goal.returns-in-42
unfolding sum_3
returns-in-42 c b e = sum_3_at b 42 (e ∙ c.in-42.is) (lit< tt)

pub returns-in-43 : goal.returns-in-43
unfolding sum_3
returns-in-43 c b e = sum_3_at b 43 (e ∙ c.in-43.is) (lit< tt)

pub returns-in-44 : goal.returns-in-44
unfolding sum_3
returns-in-44 c b e = sum_3_at b 44 (e ∙ c.in-44.is) (lit< tt)

pub returns-in-45 : goal.returns-in-45
unfolding sum_3
returns-in-45 c b e = sum_3_at b 45 (e ∙ c.in-45.is) (lit< tt)

pub returns-in-46 : goal.returns-in-46
unfolding sum_3
returns-in-46 c b e = sum_3_at b 46 (e ∙ c.in-46.is) (lit< tt)

pub returns-in-47 : goal.returns-in-47
unfolding sum_3
returns-in-47 c b e = sum_3_at b 47 (e ∙ c.in-47.is) (lit< tt)

pub returns-in-48 : goal.returns-in-48
unfolding sum_3
returns-in-48 c b e = sum_3_at b 48 (e ∙ c.in-48.is) (lit< tt)

pub returns-in-49 : goal.returns-in-49
unfolding sum_3
returns-in-49 c b e = sum_3_at b 49 (e ∙ c.in-49.is) (lit< tt)

pub returns-in-50 : goal.returns-in-50
unfolding sum_3
returns-in-50 c b e = sum_3_at b 50 (e ∙ c.in-50.is) (lit< tt)

pub returns-in-51 : goal.returns-in-51
unfolding sum_3
returns-in-51 c b e = sum_3_at b 51 (e ∙ c.in-51.is) (lit< tt)

pub returns-in-52 : goal.returns-in-52
unfolding sum_3
returns-in-52 c b e = sum_3_at b 52 (e ∙ c.in-52.is) (lit< tt)

pub returns-in-53 : goal.returns-in-53
unfolding sum_3
returns-in-53 c b e = sum_3_at b 53 (e ∙ c.in-53.is) (lit< tt)

pub returns-in-54 : goal.returns-in-54
unfolding sum_3
returns-in-54 c b e = sum_3_at b 54 (e ∙ c.in-54.is) (lit< tt)

pub returns-in-55 : goal.returns-in-55
unfolding sum_3
returns-in-55 c b e = sum_3_at b 55 (e ∙ c.in-55.is) (lit< tt)

pub returns-in-56 : goal.returns-in-56
unfolding sum_3
returns-in-56 c b e = sum_3_at b 56 (e ∙ c.in-56.is) (lit< tt)

pub returns-in-57 : goal.returns-in-57
unfolding sum_3
returns-in-57 c b e = sum_3_at b 57 (e ∙ c.in-57.is) (lit< tt)

pub returns-in-58 : goal.returns-in-58
unfolding sum_3
returns-in-58 c b e = sum_3_at b 58 (e ∙ c.in-58.is) (lit< tt)

pub returns-in-59 : goal.returns-in-59
unfolding sum_3
returns-in-59 c b e = sum_3_at b 59 (e ∙ c.in-59.is) (lit< tt)

pub returns-in-60 : goal.returns-in-60
unfolding sum_3
returns-in-60 c b e = sum_3_at b 60 (e ∙ c.in-60.is) (lit< tt)

pub returns-in-61 : goal.returns-in-61
unfolding sum_3
returns-in-61 c b e = sum_3_at b 61 (e ∙ c.in-61.is) (lit< tt)

pub returns-in-62 : goal.returns-in-62
unfolding sum_3
returns-in-62 c b e = sum_3_at b 62 (e ∙ c.in-62.is) (lit< tt)

pub returns-in-63 : goal.returns-in-63
unfolding sum_3
returns-in-63 c b e = sum_3_at b 63 (e ∙ c.in-63.is) (lit< tt)
