-- The result is what stands at its place of the table.
-- No loop; each arm is an entry of the list `entries`, by `entry_at`, and no number below 53 is left for the last.
use native.Mathlib.Omega.{arith}
use lib.Dec.{lit<}
use Rattle.base.proofs.Arms.{past}
use Rattle.powers.proofs.Factors.{entries}
use Rattle.powers.proofs.Entries.{entry_at}
use Rattle.powers.proofs.table.entry.Goals as goal

pub returns-in-0 : goal.returns-in-0
unfolding entries
returns-in-0 c = entry_at c.args.k 0 c.in-0.is (lit< tt)

pub returns-in-1 : goal.returns-in-1
unfolding entries
returns-in-1 c = entry_at c.args.k 1 c.in-1.is (lit< tt)

pub returns-in-2 : goal.returns-in-2
unfolding entries
returns-in-2 c = entry_at c.args.k 2 c.in-2.is (lit< tt)

pub returns-in-3 : goal.returns-in-3
unfolding entries
returns-in-3 c = entry_at c.args.k 3 c.in-3.is (lit< tt)

pub returns-in-4 : goal.returns-in-4
unfolding entries
returns-in-4 c = entry_at c.args.k 4 c.in-4.is (lit< tt)

pub returns-in-5 : goal.returns-in-5
unfolding entries
returns-in-5 c = entry_at c.args.k 5 c.in-5.is (lit< tt)

pub returns-in-6 : goal.returns-in-6
unfolding entries
returns-in-6 c = entry_at c.args.k 6 c.in-6.is (lit< tt)

pub returns-in-7 : goal.returns-in-7
unfolding entries
returns-in-7 c = entry_at c.args.k 7 c.in-7.is (lit< tt)

pub returns-in-8 : goal.returns-in-8
unfolding entries
returns-in-8 c = entry_at c.args.k 8 c.in-8.is (lit< tt)

pub returns-in-9 : goal.returns-in-9
unfolding entries
returns-in-9 c = entry_at c.args.k 9 c.in-9.is (lit< tt)

pub returns-in-10 : goal.returns-in-10
unfolding entries
returns-in-10 c = entry_at c.args.k 10 c.in-10.is (lit< tt)

pub returns-in-11 : goal.returns-in-11
unfolding entries
returns-in-11 c = entry_at c.args.k 11 c.in-11.is (lit< tt)

pub returns-in-12 : goal.returns-in-12
unfolding entries
returns-in-12 c = entry_at c.args.k 12 c.in-12.is (lit< tt)

pub returns-in-13 : goal.returns-in-13
unfolding entries
returns-in-13 c = entry_at c.args.k 13 c.in-13.is (lit< tt)

pub returns-in-14 : goal.returns-in-14
unfolding entries
returns-in-14 c = entry_at c.args.k 14 c.in-14.is (lit< tt)

pub returns-in-15 : goal.returns-in-15
unfolding entries
returns-in-15 c = entry_at c.args.k 15 c.in-15.is (lit< tt)

pub returns-in-16 : goal.returns-in-16
unfolding entries
returns-in-16 c = entry_at c.args.k 16 c.in-16.is (lit< tt)

pub returns-in-17 : goal.returns-in-17
unfolding entries
returns-in-17 c = entry_at c.args.k 17 c.in-17.is (lit< tt)

pub returns-in-18 : goal.returns-in-18
unfolding entries
returns-in-18 c = entry_at c.args.k 18 c.in-18.is (lit< tt)

pub returns-in-19 : goal.returns-in-19
unfolding entries
returns-in-19 c = entry_at c.args.k 19 c.in-19.is (lit< tt)

pub returns-in-20 : goal.returns-in-20
unfolding entries
returns-in-20 c = entry_at c.args.k 20 c.in-20.is (lit< tt)

pub returns-in-21 : goal.returns-in-21
unfolding entries
returns-in-21 c = entry_at c.args.k 21 c.in-21.is (lit< tt)

pub returns-in-22 : goal.returns-in-22
unfolding entries
returns-in-22 c = entry_at c.args.k 22 c.in-22.is (lit< tt)

pub returns-in-23 : goal.returns-in-23
unfolding entries
returns-in-23 c = entry_at c.args.k 23 c.in-23.is (lit< tt)

pub returns-in-24 : goal.returns-in-24
unfolding entries
returns-in-24 c = entry_at c.args.k 24 c.in-24.is (lit< tt)

pub returns-in-25 : goal.returns-in-25
unfolding entries
returns-in-25 c = entry_at c.args.k 25 c.in-25.is (lit< tt)

pub returns-in-26 : goal.returns-in-26
unfolding entries
returns-in-26 c = entry_at c.args.k 26 c.in-26.is (lit< tt)

pub returns-in-27 : goal.returns-in-27
unfolding entries
returns-in-27 c = entry_at c.args.k 27 c.in-27.is (lit< tt)

pub returns-in-28 : goal.returns-in-28
unfolding entries
returns-in-28 c = entry_at c.args.k 28 c.in-28.is (lit< tt)

pub returns-in-29 : goal.returns-in-29
unfolding entries
returns-in-29 c = entry_at c.args.k 29 c.in-29.is (lit< tt)

pub returns-in-30 : goal.returns-in-30
unfolding entries
returns-in-30 c = entry_at c.args.k 30 c.in-30.is (lit< tt)

pub returns-in-31 : goal.returns-in-31
unfolding entries
returns-in-31 c = entry_at c.args.k 31 c.in-31.is (lit< tt)

pub returns-in-32 : goal.returns-in-32
unfolding entries
returns-in-32 c = entry_at c.args.k 32 c.in-32.is (lit< tt)

pub returns-in-33 : goal.returns-in-33
unfolding entries
returns-in-33 c = entry_at c.args.k 33 c.in-33.is (lit< tt)

pub returns-in-34 : goal.returns-in-34
unfolding entries
returns-in-34 c = entry_at c.args.k 34 c.in-34.is (lit< tt)

pub returns-in-35 : goal.returns-in-35
unfolding entries
returns-in-35 c = entry_at c.args.k 35 c.in-35.is (lit< tt)

pub returns-in-36 : goal.returns-in-36
unfolding entries
returns-in-36 c = entry_at c.args.k 36 c.in-36.is (lit< tt)

pub returns-in-37 : goal.returns-in-37
unfolding entries
returns-in-37 c = entry_at c.args.k 37 c.in-37.is (lit< tt)

pub returns-in-38 : goal.returns-in-38
unfolding entries
returns-in-38 c = entry_at c.args.k 38 c.in-38.is (lit< tt)

pub returns-in-39 : goal.returns-in-39
unfolding entries
returns-in-39 c = entry_at c.args.k 39 c.in-39.is (lit< tt)

pub returns-in-40 : goal.returns-in-40
unfolding entries
returns-in-40 c = entry_at c.args.k 40 c.in-40.is (lit< tt)

pub returns-in-41 : goal.returns-in-41
unfolding entries
returns-in-41 c = entry_at c.args.k 41 c.in-41.is (lit< tt)

pub returns-in-42 : goal.returns-in-42
unfolding entries
returns-in-42 c = entry_at c.args.k 42 c.in-42.is (lit< tt)

pub returns-in-43 : goal.returns-in-43
unfolding entries
returns-in-43 c = entry_at c.args.k 43 c.in-43.is (lit< tt)

pub returns-in-44 : goal.returns-in-44
unfolding entries
returns-in-44 c = entry_at c.args.k 44 c.in-44.is (lit< tt)

pub returns-in-45 : goal.returns-in-45
unfolding entries
returns-in-45 c = entry_at c.args.k 45 c.in-45.is (lit< tt)

pub returns-in-46 : goal.returns-in-46
unfolding entries
returns-in-46 c = entry_at c.args.k 46 c.in-46.is (lit< tt)

pub returns-in-47 : goal.returns-in-47
unfolding entries
returns-in-47 c = entry_at c.args.k 47 c.in-47.is (lit< tt)

pub returns-in-48 : goal.returns-in-48
unfolding entries
returns-in-48 c = entry_at c.args.k 48 c.in-48.is (lit< tt)

pub returns-in-49 : goal.returns-in-49
unfolding entries
returns-in-49 c = entry_at c.args.k 49 c.in-49.is (lit< tt)

pub returns-in-50 : goal.returns-in-50
unfolding entries
returns-in-50 c = entry_at c.args.k 50 c.in-50.is (lit< tt)

pub returns-in-51 : goal.returns-in-51
unfolding entries
returns-in-51 c = entry_at c.args.k 51 c.in-51.is (lit< tt)

pub returns-in-52 : goal.returns-in-52
unfolding entries
returns-in-52 c = entry_at c.args.k 52 c.in-52.is (lit< tt)
