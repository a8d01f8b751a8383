-- The result is what stands at its place of the table.
-- No loop; each arm is an entry of each quarter of the list `first_steps`, by `first_steps_quarters`, and no number below 256 is left for the last.
use native.Mathlib.Omega.{arith}
use lib.Dec.{lit<}
use Rattle.base.proofs.Arms.{past}
use Rattle.power_first.proofs.Rows.{first_steps}
use Rattle.power_first.proofs.Arms.{first_steps_quarters}
use Rattle.power_first.proofs.first_steps_at.Goals as goal

pub returns-in-0 : goal.returns-in-0
unfolding first_steps
returns-in-0 c =
    let q = first_steps_quarters _ 0 c.in-0.is (lit< tt) in
    record { first = q.0; second = q.1.0; third = q.1.1.0; fourth = q.1.1.1 }

pub returns-in-1 : goal.returns-in-1
unfolding first_steps
returns-in-1 c =
    let q = first_steps_quarters _ 1 c.in-1.is (lit< tt) in
    record { first = q.0; second = q.1.0; third = q.1.1.0; fourth = q.1.1.1 }

pub returns-in-2 : goal.returns-in-2
unfolding first_steps
returns-in-2 c =
    let q = first_steps_quarters _ 2 c.in-2.is (lit< tt) in
    record { first = q.0; second = q.1.0; third = q.1.1.0; fourth = q.1.1.1 }

pub returns-in-3 : goal.returns-in-3
unfolding first_steps
returns-in-3 c =
    let q = first_steps_quarters _ 3 c.in-3.is (lit< tt) in
    record { first = q.0; second = q.1.0; third = q.1.1.0; fourth = q.1.1.1 }

pub returns-in-4 : goal.returns-in-4
unfolding first_steps
returns-in-4 c =
    let q = first_steps_quarters _ 4 c.in-4.is (lit< tt) in
    record { first = q.0; second = q.1.0; third = q.1.1.0; fourth = q.1.1.1 }

pub returns-in-5 : goal.returns-in-5
unfolding first_steps
returns-in-5 c =
    let q = first_steps_quarters _ 5 c.in-5.is (lit< tt) in
    record { first = q.0; second = q.1.0; third = q.1.1.0; fourth = q.1.1.1 }

pub returns-in-6 : goal.returns-in-6
unfolding first_steps
returns-in-6 c =
    let q = first_steps_quarters _ 6 c.in-6.is (lit< tt) in
    record { first = q.0; second = q.1.0; third = q.1.1.0; fourth = q.1.1.1 }

pub returns-in-7 : goal.returns-in-7
unfolding first_steps
returns-in-7 c =
    let q = first_steps_quarters _ 7 c.in-7.is (lit< tt) in
    record { first = q.0; second = q.1.0; third = q.1.1.0; fourth = q.1.1.1 }

pub returns-in-8 : goal.returns-in-8
unfolding first_steps
returns-in-8 c =
    let q = first_steps_quarters _ 8 c.in-8.is (lit< tt) in
    record { first = q.0; second = q.1.0; third = q.1.1.0; fourth = q.1.1.1 }

pub returns-in-9 : goal.returns-in-9
unfolding first_steps
returns-in-9 c =
    let q = first_steps_quarters _ 9 c.in-9.is (lit< tt) in
    record { first = q.0; second = q.1.0; third = q.1.1.0; fourth = q.1.1.1 }

pub returns-in-10 : goal.returns-in-10
unfolding first_steps
returns-in-10 c =
    let q = first_steps_quarters _ 10 c.in-10.is (lit< tt) in
    record { first = q.0; second = q.1.0; third = q.1.1.0; fourth = q.1.1.1 }

pub returns-in-11 : goal.returns-in-11
unfolding first_steps
returns-in-11 c =
    let q = first_steps_quarters _ 11 c.in-11.is (lit< tt) in
    record { first = q.0; second = q.1.0; third = q.1.1.0; fourth = q.1.1.1 }

pub returns-in-12 : goal.returns-in-12
unfolding first_steps
returns-in-12 c =
    let q = first_steps_quarters _ 12 c.in-12.is (lit< tt) in
    record { first = q.0; second = q.1.0; third = q.1.1.0; fourth = q.1.1.1 }

pub returns-in-13 : goal.returns-in-13
unfolding first_steps
returns-in-13 c =
    let q = first_steps_quarters _ 13 c.in-13.is (lit< tt) in
    record { first = q.0; second = q.1.0; third = q.1.1.0; fourth = q.1.1.1 }

pub returns-in-14 : goal.returns-in-14
unfolding first_steps
returns-in-14 c =
    let q = first_steps_quarters _ 14 c.in-14.is (lit< tt) in
    record { first = q.0; second = q.1.0; third = q.1.1.0; fourth = q.1.1.1 }

pub returns-in-15 : goal.returns-in-15
unfolding first_steps
returns-in-15 c =
    let q = first_steps_quarters _ 15 c.in-15.is (lit< tt) in
    record { first = q.0; second = q.1.0; third = q.1.1.0; fourth = q.1.1.1 }

pub returns-in-16 : goal.returns-in-16
unfolding first_steps
returns-in-16 c =
    let q = first_steps_quarters _ 16 c.in-16.is (lit< tt) in
    record { first = q.0; second = q.1.0; third = q.1.1.0; fourth = q.1.1.1 }

pub returns-in-17 : goal.returns-in-17
unfolding first_steps
returns-in-17 c =
    let q = first_steps_quarters _ 17 c.in-17.is (lit< tt) in
    record { first = q.0; second = q.1.0; third = q.1.1.0; fourth = q.1.1.1 }

pub returns-in-18 : goal.returns-in-18
unfolding first_steps
returns-in-18 c =
    let q = first_steps_quarters _ 18 c.in-18.is (lit< tt) in
    record { first = q.0; second = q.1.0; third = q.1.1.0; fourth = q.1.1.1 }

pub returns-in-19 : goal.returns-in-19
unfolding first_steps
returns-in-19 c =
    let q = first_steps_quarters _ 19 c.in-19.is (lit< tt) in
    record { first = q.0; second = q.1.0; third = q.1.1.0; fourth = q.1.1.1 }

pub returns-in-20 : goal.returns-in-20
unfolding first_steps
returns-in-20 c =
    let q = first_steps_quarters _ 20 c.in-20.is (lit< tt) in
    record { first = q.0; second = q.1.0; third = q.1.1.0; fourth = q.1.1.1 }

pub returns-in-21 : goal.returns-in-21
unfolding first_steps
returns-in-21 c =
    let q = first_steps_quarters _ 21 c.in-21.is (lit< tt) in
    record { first = q.0; second = q.1.0; third = q.1.1.0; fourth = q.1.1.1 }

pub returns-in-22 : goal.returns-in-22
unfolding first_steps
returns-in-22 c =
    let q = first_steps_quarters _ 22 c.in-22.is (lit< tt) in
    record { first = q.0; second = q.1.0; third = q.1.1.0; fourth = q.1.1.1 }

pub returns-in-23 : goal.returns-in-23
unfolding first_steps
returns-in-23 c =
    let q = first_steps_quarters _ 23 c.in-23.is (lit< tt) in
    record { first = q.0; second = q.1.0; third = q.1.1.0; fourth = q.1.1.1 }

pub returns-in-24 : goal.returns-in-24
unfolding first_steps
returns-in-24 c =
    let q = first_steps_quarters _ 24 c.in-24.is (lit< tt) in
    record { first = q.0; second = q.1.0; third = q.1.1.0; fourth = q.1.1.1 }

pub returns-in-25 : goal.returns-in-25
unfolding first_steps
returns-in-25 c =
    let q = first_steps_quarters _ 25 c.in-25.is (lit< tt) in
    record { first = q.0; second = q.1.0; third = q.1.1.0; fourth = q.1.1.1 }

pub returns-in-26 : goal.returns-in-26
unfolding first_steps
returns-in-26 c =
    let q = first_steps_quarters _ 26 c.in-26.is (lit< tt) in
    record { first = q.0; second = q.1.0; third = q.1.1.0; fourth = q.1.1.1 }

pub returns-in-27 : goal.returns-in-27
unfolding first_steps
returns-in-27 c =
    let q = first_steps_quarters _ 27 c.in-27.is (lit< tt) in
    record { first = q.0; second = q.1.0; third = q.1.1.0; fourth = q.1.1.1 }

pub returns-in-28 : goal.returns-in-28
unfolding first_steps
returns-in-28 c =
    let q = first_steps_quarters _ 28 c.in-28.is (lit< tt) in
    record { first = q.0; second = q.1.0; third = q.1.1.0; fourth = q.1.1.1 }

pub returns-in-29 : goal.returns-in-29
unfolding first_steps
returns-in-29 c =
    let q = first_steps_quarters _ 29 c.in-29.is (lit< tt) in
    record { first = q.0; second = q.1.0; third = q.1.1.0; fourth = q.1.1.1 }

pub returns-in-30 : goal.returns-in-30
unfolding first_steps
returns-in-30 c =
    let q = first_steps_quarters _ 30 c.in-30.is (lit< tt) in
    record { first = q.0; second = q.1.0; third = q.1.1.0; fourth = q.1.1.1 }

pub returns-in-31 : goal.returns-in-31
unfolding first_steps
returns-in-31 c =
    let q = first_steps_quarters _ 31 c.in-31.is (lit< tt) in
    record { first = q.0; second = q.1.0; third = q.1.1.0; fourth = q.1.1.1 }

pub returns-in-32 : goal.returns-in-32
unfolding first_steps
returns-in-32 c =
    let q = first_steps_quarters _ 32 c.in-32.is (lit< tt) in
    record { first = q.0; second = q.1.0; third = q.1.1.0; fourth = q.1.1.1 }

pub returns-in-33 : goal.returns-in-33
unfolding first_steps
returns-in-33 c =
    let q = first_steps_quarters _ 33 c.in-33.is (lit< tt) in
    record { first = q.0; second = q.1.0; third = q.1.1.0; fourth = q.1.1.1 }

pub returns-in-34 : goal.returns-in-34
unfolding first_steps
returns-in-34 c =
    let q = first_steps_quarters _ 34 c.in-34.is (lit< tt) in
    record { first = q.0; second = q.1.0; third = q.1.1.0; fourth = q.1.1.1 }

pub returns-in-35 : goal.returns-in-35
unfolding first_steps
returns-in-35 c =
    let q = first_steps_quarters _ 35 c.in-35.is (lit< tt) in
    record { first = q.0; second = q.1.0; third = q.1.1.0; fourth = q.1.1.1 }

pub returns-in-36 : goal.returns-in-36
unfolding first_steps
returns-in-36 c =
    let q = first_steps_quarters _ 36 c.in-36.is (lit< tt) in
    record { first = q.0; second = q.1.0; third = q.1.1.0; fourth = q.1.1.1 }

pub returns-in-37 : goal.returns-in-37
unfolding first_steps
returns-in-37 c =
    let q = first_steps_quarters _ 37 c.in-37.is (lit< tt) in
    record { first = q.0; second = q.1.0; third = q.1.1.0; fourth = q.1.1.1 }

pub returns-in-38 : goal.returns-in-38
unfolding first_steps
returns-in-38 c =
    let q = first_steps_quarters _ 38 c.in-38.is (lit< tt) in
    record { first = q.0; second = q.1.0; third = q.1.1.0; fourth = q.1.1.1 }

pub returns-in-39 : goal.returns-in-39
unfolding first_steps
returns-in-39 c =
    let q = first_steps_quarters _ 39 c.in-39.is (lit< tt) in
    record { first = q.0; second = q.1.0; third = q.1.1.0; fourth = q.1.1.1 }

pub returns-in-40 : goal.returns-in-40
unfolding first_steps
returns-in-40 c =
    let q = first_steps_quarters _ 40 c.in-40.is (lit< tt) in
    record { first = q.0; second = q.1.0; third = q.1.1.0; fourth = q.1.1.1 }

pub returns-in-41 : goal.returns-in-41
unfolding first_steps
returns-in-41 c =
    let q = first_steps_quarters _ 41 c.in-41.is (lit< tt) in
    record { first = q.0; second = q.1.0; third = q.1.1.0; fourth = q.1.1.1 }

pub returns-in-42 : goal.returns-in-42
unfolding first_steps
returns-in-42 c =
    let q = first_steps_quarters _ 42 c.in-42.is (lit< tt) in
    record { first = q.0; second = q.1.0; third = q.1.1.0; fourth = q.1.1.1 }

pub returns-in-43 : goal.returns-in-43
unfolding first_steps
returns-in-43 c =
    let q = first_steps_quarters _ 43 c.in-43.is (lit< tt) in
    record { first = q.0; second = q.1.0; third = q.1.1.0; fourth = q.1.1.1 }

pub returns-in-44 : goal.returns-in-44
unfolding first_steps
returns-in-44 c =
    let q = first_steps_quarters _ 44 c.in-44.is (lit< tt) in
    record { first = q.0; second = q.1.0; third = q.1.1.0; fourth = q.1.1.1 }

pub returns-in-45 : goal.returns-in-45
unfolding first_steps
returns-in-45 c =
    let q = first_steps_quarters _ 45 c.in-45.is (lit< tt) in
    record { first = q.0; second = q.1.0; third = q.1.1.0; fourth = q.1.1.1 }

pub returns-in-46 : goal.returns-in-46
unfolding first_steps
returns-in-46 c =
    let q = first_steps_quarters _ 46 c.in-46.is (lit< tt) in
    record { first = q.0; second = q.1.0; third = q.1.1.0; fourth = q.1.1.1 }

pub returns-in-47 : goal.returns-in-47
unfolding first_steps
returns-in-47 c =
    let q = first_steps_quarters _ 47 c.in-47.is (lit< tt) in
    record { first = q.0; second = q.1.0; third = q.1.1.0; fourth = q.1.1.1 }

pub returns-in-48 : goal.returns-in-48
unfolding first_steps
returns-in-48 c =
    let q = first_steps_quarters _ 48 c.in-48.is (lit< tt) in
    record { first = q.0; second = q.1.0; third = q.1.1.0; fourth = q.1.1.1 }

pub returns-in-49 : goal.returns-in-49
unfolding first_steps
returns-in-49 c =
    let q = first_steps_quarters _ 49 c.in-49.is (lit< tt) in
    record { first = q.0; second = q.1.0; third = q.1.1.0; fourth = q.1.1.1 }

pub returns-in-50 : goal.returns-in-50
unfolding first_steps
returns-in-50 c =
    let q = first_steps_quarters _ 50 c.in-50.is (lit< tt) in
    record { first = q.0; second = q.1.0; third = q.1.1.0; fourth = q.1.1.1 }

pub returns-in-51 : goal.returns-in-51
unfolding first_steps
returns-in-51 c =
    let q = first_steps_quarters _ 51 c.in-51.is (lit< tt) in
    record { first = q.0; second = q.1.0; third = q.1.1.0; fourth = q.1.1.1 }

pub returns-in-52 : goal.returns-in-52
unfolding first_steps
returns-in-52 c =
    let q = first_steps_quarters _ 52 c.in-52.is (lit< tt) in
    record { first = q.0; second = q.1.0; third = q.1.1.0; fourth = q.1.1.1 }

pub returns-in-53 : goal.returns-in-53
unfolding first_steps
returns-in-53 c =
    let q = first_steps_quarters _ 53 c.in-53.is (lit< tt) in
    record { first = q.0; second = q.1.0; third = q.1.1.0; fourth = q.1.1.1 }

pub returns-in-54 : goal.returns-in-54
unfolding first_steps
returns-in-54 c =
    let q = first_steps_quarters _ 54 c.in-54.is (lit< tt) in
    record { first = q.0; second = q.1.0; third = q.1.1.0; fourth = q.1.1.1 }

pub returns-in-55 : goal.returns-in-55
unfolding first_steps
returns-in-55 c =
    let q = first_steps_quarters _ 55 c.in-55.is (lit< tt) in
    record { first = q.0; second = q.1.0; third = q.1.1.0; fourth = q.1.1.1 }

pub returns-in-56 : goal.returns-in-56
unfolding first_steps
returns-in-56 c =
    let q = first_steps_quarters _ 56 c.in-56.is (lit< tt) in
    record { first = q.0; second = q.1.0; third = q.1.1.0; fourth = q.1.1.1 }

pub returns-in-57 : goal.returns-in-57
unfolding first_steps
returns-in-57 c =
    let q = first_steps_quarters _ 57 c.in-57.is (lit< tt) in
    record { first = q.0; second = q.1.0; third = q.1.1.0; fourth = q.1.1.1 }

pub returns-in-58 : goal.returns-in-58
unfolding first_steps
returns-in-58 c =
    let q = first_steps_quarters _ 58 c.in-58.is (lit< tt) in
    record { first = q.0; second = q.1.0; third = q.1.1.0; fourth = q.1.1.1 }

pub returns-in-59 : goal.returns-in-59
unfolding first_steps
returns-in-59 c =
    let q = first_steps_quarters _ 59 c.in-59.is (lit< tt) in
    record { first = q.0; second = q.1.0; third = q.1.1.0; fourth = q.1.1.1 }

pub returns-in-60 : goal.returns-in-60
unfolding first_steps
returns-in-60 c =
    let q = first_steps_quarters _ 60 c.in-60.is (lit< tt) in
    record { first = q.0; second = q.1.0; third = q.1.1.0; fourth = q.1.1.1 }

pub returns-in-61 : goal.returns-in-61
unfolding first_steps
returns-in-61 c =
    let q = first_steps_quarters _ 61 c.in-61.is (lit< tt) in
    record { first = q.0; second = q.1.0; third = q.1.1.0; fourth = q.1.1.1 }

pub returns-in-62 : goal.returns-in-62
unfolding first_steps
returns-in-62 c =
    let q = first_steps_quarters _ 62 c.in-62.is (lit< tt) in
    record { first = q.0; second = q.1.0; third = q.1.1.0; fourth = q.1.1.1 }

pub returns-in-63 : goal.returns-in-63
unfolding first_steps
returns-in-63 c =
    let q = first_steps_quarters _ 63 c.in-63.is (lit< tt) in
    record { first = q.0; second = q.1.0; third = q.1.1.0; fourth = q.1.1.1 }

pub returns-in-64 : goal.returns-in-64
unfolding first_steps
returns-in-64 c =
    let q = first_steps_quarters _ 64 c.in-64.is (lit< tt) in
    record { first = q.0; second = q.1.0; third = q.1.1.0; fourth = q.1.1.1 }

pub returns-in-65 : goal.returns-in-65
unfolding first_steps
returns-in-65 c =
    let q = first_steps_quarters _ 65 c.in-65.is (lit< tt) in
    record { first = q.0; second = q.1.0; third = q.1.1.0; fourth = q.1.1.1 }

pub returns-in-66 : goal.returns-in-66
unfolding first_steps
returns-in-66 c =
    let q = first_steps_quarters _ 66 c.in-66.is (lit< tt) in
    record { first = q.0; second = q.1.0; third = q.1.1.0; fourth = q.1.1.1 }

pub returns-in-67 : goal.returns-in-67
unfolding first_steps
returns-in-67 c =
    let q = first_steps_quarters _ 67 c.in-67.is (lit< tt) in
    record { first = q.0; second = q.1.0; third = q.1.1.0; fourth = q.1.1.1 }

pub returns-in-68 : goal.returns-in-68
unfolding first_steps
returns-in-68 c =
    let q = first_steps_quarters _ 68 c.in-68.is (lit< tt) in
    record { first = q.0; second = q.1.0; third = q.1.1.0; fourth = q.1.1.1 }

pub returns-in-69 : goal.returns-in-69
unfolding first_steps
returns-in-69 c =
    let q = first_steps_quarters _ 69 c.in-69.is (lit< tt) in
    record { first = q.0; second = q.1.0; third = q.1.1.0; fourth = q.1.1.1 }

pub returns-in-70 : goal.returns-in-70
unfolding first_steps
returns-in-70 c =
    let q = first_steps_quarters _ 70 c.in-70.is (lit< tt) in
    record { first = q.0; second = q.1.0; third = q.1.1.0; fourth = q.1.1.1 }

pub returns-in-71 : goal.returns-in-71
unfolding first_steps
returns-in-71 c =
    let q = first_steps_quarters _ 71 c.in-71.is (lit< tt) in
    record { first = q.0; second = q.1.0; third = q.1.1.0; fourth = q.1.1.1 }

pub returns-in-72 : goal.returns-in-72
unfolding first_steps
returns-in-72 c =
    let q = first_steps_quarters _ 72 c.in-72.is (lit< tt) in
    record { first = q.0; second = q.1.0; third = q.1.1.0; fourth = q.1.1.1 }

pub returns-in-73 : goal.returns-in-73
unfolding first_steps
returns-in-73 c =
    let q = first_steps_quarters _ 73 c.in-73.is (lit< tt) in
    record { first = q.0; second = q.1.0; third = q.1.1.0; fourth = q.1.1.1 }

pub returns-in-74 : goal.returns-in-74
unfolding first_steps
returns-in-74 c =
    let q = first_steps_quarters _ 74 c.in-74.is (lit< tt) in
    record { first = q.0; second = q.1.0; third = q.1.1.0; fourth = q.1.1.1 }

pub returns-in-75 : goal.returns-in-75
unfolding first_steps
returns-in-75 c =
    let q = first_steps_quarters _ 75 c.in-75.is (lit< tt) in
    record { first = q.0; second = q.1.0; third = q.1.1.0; fourth = q.1.1.1 }

pub returns-in-76 : goal.returns-in-76
unfolding first_steps
returns-in-76 c =
    let q = first_steps_quarters _ 76 c.in-76.is (lit< tt) in
    record { first = q.0; second = q.1.0; third = q.1.1.0; fourth = q.1.1.1 }

pub returns-in-77 : goal.returns-in-77
unfolding first_steps
returns-in-77 c =
    let q = first_steps_quarters _ 77 c.in-77.is (lit< tt) in
    record { first = q.0; second = q.1.0; third = q.1.1.0; fourth = q.1.1.1 }

pub returns-in-78 : goal.returns-in-78
unfolding first_steps
returns-in-78 c =
    let q = first_steps_quarters _ 78 c.in-78.is (lit< tt) in
    record { first = q.0; second = q.1.0; third = q.1.1.0; fourth = q.1.1.1 }

pub returns-in-79 : goal.returns-in-79
unfolding first_steps
returns-in-79 c =
    let q = first_steps_quarters _ 79 c.in-79.is (lit< tt) in
    record { first = q.0; second = q.1.0; third = q.1.1.0; fourth = q.1.1.1 }

pub returns-in-80 : goal.returns-in-80
unfolding first_steps
returns-in-80 c =
    let q = first_steps_quarters _ 80 c.in-80.is (lit< tt) in
    record { first = q.0; second = q.1.0; third = q.1.1.0; fourth = q.1.1.1 }

pub returns-in-81 : goal.returns-in-81
unfolding first_steps
returns-in-81 c =
    let q = first_steps_quarters _ 81 c.in-81.is (lit< tt) in
    record { first = q.0; second = q.1.0; third = q.1.1.0; fourth = q.1.1.1 }

pub returns-in-82 : goal.returns-in-82
unfolding first_steps
returns-in-82 c =
    let q = first_steps_quarters _ 82 c.in-82.is (lit< tt) in
    record { first = q.0; second = q.1.0; third = q.1.1.0; fourth = q.1.1.1 }

pub returns-in-83 : goal.returns-in-83
unfolding first_steps
returns-in-83 c =
    let q = first_steps_quarters _ 83 c.in-83.is (lit< tt) in
    record { first = q.0; second = q.1.0; third = q.1.1.0; fourth = q.1.1.1 }

pub returns-in-84 : goal.returns-in-84
unfolding first_steps
returns-in-84 c =
    let q = first_steps_quarters _ 84 c.in-84.is (lit< tt) in
    record { first = q.0; second = q.1.0; third = q.1.1.0; fourth = q.1.1.1 }

pub returns-in-85 : goal.returns-in-85
unfolding first_steps
returns-in-85 c =
    let q = first_steps_quarters _ 85 c.in-85.is (lit< tt) in
    record { first = q.0; second = q.1.0; third = q.1.1.0; fourth = q.1.1.1 }

pub returns-in-86 : goal.returns-in-86
unfolding first_steps
returns-in-86 c =
    let q = first_steps_quarters _ 86 c.in-86.is (lit< tt) in
    record { first = q.0; second = q.1.0; third = q.1.1.0; fourth = q.1.1.1 }

pub returns-in-87 : goal.returns-in-87
unfolding first_steps
returns-in-87 c =
    let q = first_steps_quarters _ 87 c.in-87.is (lit< tt) in
    record { first = q.0; second = q.1.0; third = q.1.1.0; fourth = q.1.1.1 }

pub returns-in-88 : goal.returns-in-88
unfolding first_steps
returns-in-88 c =
    let q = first_steps_quarters _ 88 c.in-88.is (lit< tt) in
    record { first = q.0; second = q.1.0; third = q.1.1.0; fourth = q.1.1.1 }

pub returns-in-89 : goal.returns-in-89
unfolding first_steps
returns-in-89 c =
    let q = first_steps_quarters _ 89 c.in-89.is (lit< tt) in
    record { first = q.0; second = q.1.0; third = q.1.1.0; fourth = q.1.1.1 }

pub returns-in-90 : goal.returns-in-90
unfolding first_steps
returns-in-90 c =
    let q = first_steps_quarters _ 90 c.in-90.is (lit< tt) in
    record { first = q.0; second = q.1.0; third = q.1.1.0; fourth = q.1.1.1 }

pub returns-in-91 : goal.returns-in-91
unfolding first_steps
returns-in-91 c =
    let q = first_steps_quarters _ 91 c.in-91.is (lit< tt) in
    record { first = q.0; second = q.1.0; third = q.1.1.0; fourth = q.1.1.1 }

pub returns-in-92 : goal.returns-in-92
unfolding first_steps
returns-in-92 c =
    let q = first_steps_quarters _ 92 c.in-92.is (lit< tt) in
    record { first = q.0; second = q.1.0; third = q.1.1.0; fourth = q.1.1.1 }

pub returns-in-93 : goal.returns-in-93
unfolding first_steps
returns-in-93 c =
    let q = first_steps_quarters _ 93 c.in-93.is (lit< tt) in
    record { first = q.0; second = q.1.0; third = q.1.1.0; fourth = q.1.1.1 }

pub returns-in-94 : goal.returns-in-94
unfolding first_steps
returns-in-94 c =
    let q = first_steps_quarters _ 94 c.in-94.is (lit< tt) in
    record { first = q.0; second = q.1.0; third = q.1.1.0; fourth = q.1.1.1 }

pub returns-in-95 : goal.returns-in-95
unfolding first_steps
returns-in-95 c =
    let q = first_steps_quarters _ 95 c.in-95.is (lit< tt) in
    record { first = q.0; second = q.1.0; third = q.1.1.0; fourth = q.1.1.1 }

pub returns-in-96 : goal.returns-in-96
unfolding first_steps
returns-in-96 c =
    let q = first_steps_quarters _ 96 c.in-96.is (lit< tt) in
    record { first = q.0; second = q.1.0; third = q.1.1.0; fourth = q.1.1.1 }

pub returns-in-97 : goal.returns-in-97
unfolding first_steps
returns-in-97 c =
    let q = first_steps_quarters _ 97 c.in-97.is (lit< tt) in
    record { first = q.0; second = q.1.0; third = q.1.1.0; fourth = q.1.1.1 }

pub returns-in-98 : goal.returns-in-98
unfolding first_steps
returns-in-98 c =
    let q = first_steps_quarters _ 98 c.in-98.is (lit< tt) in
    record { first = q.0; second = q.1.0; third = q.1.1.0; fourth = q.1.1.1 }

pub returns-in-99 : goal.returns-in-99
unfolding first_steps
returns-in-99 c =
    let q = first_steps_quarters _ 99 c.in-99.is (lit< tt) in
    record { first = q.0; second = q.1.0; third = q.1.1.0; fourth = q.1.1.1 }

pub returns-in-100 : goal.returns-in-100
unfolding first_steps
returns-in-100 c =
    let q = first_steps_quarters _ 100 c.in-100.is (lit< tt) in
    record { first = q.0; second = q.1.0; third = q.1.1.0; fourth = q.1.1.1 }

pub returns-in-101 : goal.returns-in-101
unfolding first_steps
returns-in-101 c =
    let q = first_steps_quarters _ 101 c.in-101.is (lit< tt) in
    record { first = q.0; second = q.1.0; third = q.1.1.0; fourth = q.1.1.1 }

pub returns-in-102 : goal.returns-in-102
unfolding first_steps
returns-in-102 c =
    let q = first_steps_quarters _ 102 c.in-102.is (lit< tt) in
    record { first = q.0; second = q.1.0; third = q.1.1.0; fourth = q.1.1.1 }

pub returns-in-103 : goal.returns-in-103
unfolding first_steps
returns-in-103 c =
    let q = first_steps_quarters _ 103 c.in-103.is (lit< tt) in
    record { first = q.0; second = q.1.0; third = q.1.1.0; fourth = q.1.1.1 }

pub returns-in-104 : goal.returns-in-104
unfolding first_steps
returns-in-104 c =
    let q = first_steps_quarters _ 104 c.in-104.is (lit< tt) in
    record { first = q.0; second = q.1.0; third = q.1.1.0; fourth = q.1.1.1 }

pub returns-in-105 : goal.returns-in-105
unfolding first_steps
returns-in-105 c =
    let q = first_steps_quarters _ 105 c.in-105.is (lit< tt) in
    record { first = q.0; second = q.1.0; third = q.1.1.0; fourth = q.1.1.1 }

pub returns-in-106 : goal.returns-in-106
unfolding first_steps
returns-in-106 c =
    let q = first_steps_quarters _ 106 c.in-106.is (lit< tt) in
    record { first = q.0; second = q.1.0; third = q.1.1.0; fourth = q.1.1.1 }

pub returns-in-107 : goal.returns-in-107
unfolding first_steps
returns-in-107 c =
    let q = first_steps_quarters _ 107 c.in-107.is (lit< tt) in
    record { first = q.0; second = q.1.0; third = q.1.1.0; fourth = q.1.1.1 }

pub returns-in-108 : goal.returns-in-108
unfolding first_steps
returns-in-108 c =
    let q = first_steps_quarters _ 108 c.in-108.is (lit< tt) in
    record { first = q.0; second = q.1.0; third = q.1.1.0; fourth = q.1.1.1 }

pub returns-in-109 : goal.returns-in-109
unfolding first_steps
returns-in-109 c =
    let q = first_steps_quarters _ 109 c.in-109.is (lit< tt) in
    record { first = q.0; second = q.1.0; third = q.1.1.0; fourth = q.1.1.1 }

pub returns-in-110 : goal.returns-in-110
unfolding first_steps
returns-in-110 c =
    let q = first_steps_quarters _ 110 c.in-110.is (lit< tt) in
    record { first = q.0; second = q.1.0; third = q.1.1.0; fourth = q.1.1.1 }

pub returns-in-111 : goal.returns-in-111
unfolding first_steps
returns-in-111 c =
    let q = first_steps_quarters _ 111 c.in-111.is (lit< tt) in
    record { first = q.0; second = q.1.0; third = q.1.1.0; fourth = q.1.1.1 }

pub returns-in-112 : goal.returns-in-112
unfolding first_steps
returns-in-112 c =
    let q = first_steps_quarters _ 112 c.in-112.is (lit< tt) in
    record { first = q.0; second = q.1.0; third = q.1.1.0; fourth = q.1.1.1 }

pub returns-in-113 : goal.returns-in-113
unfolding first_steps
returns-in-113 c =
    let q = first_steps_quarters _ 113 c.in-113.is (lit< tt) in
    record { first = q.0; second = q.1.0; third = q.1.1.0; fourth = q.1.1.1 }

pub returns-in-114 : goal.returns-in-114
unfolding first_steps
returns-in-114 c =
    let q = first_steps_quarters _ 114 c.in-114.is (lit< tt) in
    record { first = q.0; second = q.1.0; third = q.1.1.0; fourth = q.1.1.1 }

pub returns-in-115 : goal.returns-in-115
unfolding first_steps
returns-in-115 c =
    let q = first_steps_quarters _ 115 c.in-115.is (lit< tt) in
    record { first = q.0; second = q.1.0; third = q.1.1.0; fourth = q.1.1.1 }

pub returns-in-116 : goal.returns-in-116
unfolding first_steps
returns-in-116 c =
    let q = first_steps_quarters _ 116 c.in-116.is (lit< tt) in
    record { first = q.0; second = q.1.0; third = q.1.1.0; fourth = q.1.1.1 }

pub returns-in-117 : goal.returns-in-117
unfolding first_steps
returns-in-117 c =
    let q = first_steps_quarters _ 117 c.in-117.is (lit< tt) in
    record { first = q.0; second = q.1.0; third = q.1.1.0; fourth = q.1.1.1 }

pub returns-in-118 : goal.returns-in-118
unfolding first_steps
returns-in-118 c =
    let q = first_steps_quarters _ 118 c.in-118.is (lit< tt) in
    record { first = q.0; second = q.1.0; third = q.1.1.0; fourth = q.1.1.1 }

pub returns-in-119 : goal.returns-in-119
unfolding first_steps
returns-in-119 c =
    let q = first_steps_quarters _ 119 c.in-119.is (lit< tt) in
    record { first = q.0; second = q.1.0; third = q.1.1.0; fourth = q.1.1.1 }

pub returns-in-120 : goal.returns-in-120
unfolding first_steps
returns-in-120 c =
    let q = first_steps_quarters _ 120 c.in-120.is (lit< tt) in
    record { first = q.0; second = q.1.0; third = q.1.1.0; fourth = q.1.1.1 }

pub returns-in-121 : goal.returns-in-121
unfolding first_steps
returns-in-121 c =
    let q = first_steps_quarters _ 121 c.in-121.is (lit< tt) in
    record { first = q.0; second = q.1.0; third = q.1.1.0; fourth = q.1.1.1 }

pub returns-in-122 : goal.returns-in-122
unfolding first_steps
returns-in-122 c =
    let q = first_steps_quarters _ 122 c.in-122.is (lit< tt) in
    record { first = q.0; second = q.1.0; third = q.1.1.0; fourth = q.1.1.1 }

pub returns-in-123 : goal.returns-in-123
unfolding first_steps
returns-in-123 c =
    let q = first_steps_quarters _ 123 c.in-123.is (lit< tt) in
    record { first = q.0; second = q.1.0; third = q.1.1.0; fourth = q.1.1.1 }

pub returns-in-124 : goal.returns-in-124
unfolding first_steps
returns-in-124 c =
    let q = first_steps_quarters _ 124 c.in-124.is (lit< tt) in
    record { first = q.0; second = q.1.0; third = q.1.1.0; fourth = q.1.1.1 }

pub returns-in-125 : goal.returns-in-125
unfolding first_steps
returns-in-125 c =
    let q = first_steps_quarters _ 125 c.in-125.is (lit< tt) in
    record { first = q.0; second = q.1.0; third = q.1.1.0; fourth = q.1.1.1 }

pub returns-in-126 : goal.returns-in-126
unfolding first_steps
returns-in-126 c =
    let q = first_steps_quarters _ 126 c.in-126.is (lit< tt) in
    record { first = q.0; second = q.1.0; third = q.1.1.0; fourth = q.1.1.1 }

pub returns-in-127 : goal.returns-in-127
unfolding first_steps
returns-in-127 c =
    let q = first_steps_quarters _ 127 c.in-127.is (lit< tt) in
    record { first = q.0; second = q.1.0; third = q.1.1.0; fourth = q.1.1.1 }

pub returns-in-128 : goal.returns-in-128
unfolding first_steps
returns-in-128 c =
    let q = first_steps_quarters _ 128 c.in-128.is (lit< tt) in
    record { first = q.0; second = q.1.0; third = q.1.1.0; fourth = q.1.1.1 }

pub returns-in-129 : goal.returns-in-129
unfolding first_steps
returns-in-129 c =
    let q = first_steps_quarters _ 129 c.in-129.is (lit< tt) in
    record { first = q.0; second = q.1.0; third = q.1.1.0; fourth = q.1.1.1 }

pub returns-in-130 : goal.returns-in-130
unfolding first_steps
returns-in-130 c =
    let q = first_steps_quarters _ 130 c.in-130.is (lit< tt) in
    record { first = q.0; second = q.1.0; third = q.1.1.0; fourth = q.1.1.1 }

pub returns-in-131 : goal.returns-in-131
unfolding first_steps
returns-in-131 c =
    let q = first_steps_quarters _ 131 c.in-131.is (lit< tt) in
    record { first = q.0; second = q.1.0; third = q.1.1.0; fourth = q.1.1.1 }

pub returns-in-132 : goal.returns-in-132
unfolding first_steps
returns-in-132 c =
    let q = first_steps_quarters _ 132 c.in-132.is (lit< tt) in
    record { first = q.0; second = q.1.0; third = q.1.1.0; fourth = q.1.1.1 }

pub returns-in-133 : goal.returns-in-133
unfolding first_steps
returns-in-133 c =
    let q = first_steps_quarters _ 133 c.in-133.is (lit< tt) in
    record { first = q.0; second = q.1.0; third = q.1.1.0; fourth = q.1.1.1 }

pub returns-in-134 : goal.returns-in-134
unfolding first_steps
returns-in-134 c =
    let q = first_steps_quarters _ 134 c.in-134.is (lit< tt) in
    record { first = q.0; second = q.1.0; third = q.1.1.0; fourth = q.1.1.1 }

pub returns-in-135 : goal.returns-in-135
unfolding first_steps
returns-in-135 c =
    let q = first_steps_quarters _ 135 c.in-135.is (lit< tt) in
    record { first = q.0; second = q.1.0; third = q.1.1.0; fourth = q.1.1.1 }

pub returns-in-136 : goal.returns-in-136
unfolding first_steps
returns-in-136 c =
    let q = first_steps_quarters _ 136 c.in-136.is (lit< tt) in
    record { first = q.0; second = q.1.0; third = q.1.1.0; fourth = q.1.1.1 }

pub returns-in-137 : goal.returns-in-137
unfolding first_steps
returns-in-137 c =
    let q = first_steps_quarters _ 137 c.in-137.is (lit< tt) in
    record { first = q.0; second = q.1.0; third = q.1.1.0; fourth = q.1.1.1 }

pub returns-in-138 : goal.returns-in-138
unfolding first_steps
returns-in-138 c =
    let q = first_steps_quarters _ 138 c.in-138.is (lit< tt) in
    record { first = q.0; second = q.1.0; third = q.1.1.0; fourth = q.1.1.1 }

pub returns-in-139 : goal.returns-in-139
unfolding first_steps
returns-in-139 c =
    let q = first_steps_quarters _ 139 c.in-139.is (lit< tt) in
    record { first = q.0; second = q.1.0; third = q.1.1.0; fourth = q.1.1.1 }

pub returns-in-140 : goal.returns-in-140
unfolding first_steps
returns-in-140 c =
    let q = first_steps_quarters _ 140 c.in-140.is (lit< tt) in
    record { first = q.0; second = q.1.0; third = q.1.1.0; fourth = q.1.1.1 }

pub returns-in-141 : goal.returns-in-141
unfolding first_steps
returns-in-141 c =
    let q = first_steps_quarters _ 141 c.in-141.is (lit< tt) in
    record { first = q.0; second = q.1.0; third = q.1.1.0; fourth = q.1.1.1 }

pub returns-in-142 : goal.returns-in-142
unfolding first_steps
returns-in-142 c =
    let q = first_steps_quarters _ 142 c.in-142.is (lit< tt) in
    record { first = q.0; second = q.1.0; third = q.1.1.0; fourth = q.1.1.1 }

pub returns-in-143 : goal.returns-in-143
unfolding first_steps
returns-in-143 c =
    let q = first_steps_quarters _ 143 c.in-143.is (lit< tt) in
    record { first = q.0; second = q.1.0; third = q.1.1.0; fourth = q.1.1.1 }

pub returns-in-144 : goal.returns-in-144
unfolding first_steps
returns-in-144 c =
    let q = first_steps_quarters _ 144 c.in-144.is (lit< tt) in
    record { first = q.0; second = q.1.0; third = q.1.1.0; fourth = q.1.1.1 }

pub returns-in-145 : goal.returns-in-145
unfolding first_steps
returns-in-145 c =
    let q = first_steps_quarters _ 145 c.in-145.is (lit< tt) in
    record { first = q.0; second = q.1.0; third = q.1.1.0; fourth = q.1.1.1 }

pub returns-in-146 : goal.returns-in-146
unfolding first_steps
returns-in-146 c =
    let q = first_steps_quarters _ 146 c.in-146.is (lit< tt) in
    record { first = q.0; second = q.1.0; third = q.1.1.0; fourth = q.1.1.1 }

pub returns-in-147 : goal.returns-in-147
unfolding first_steps
returns-in-147 c =
    let q = first_steps_quarters _ 147 c.in-147.is (lit< tt) in
    record { first = q.0; second = q.1.0; third = q.1.1.0; fourth = q.1.1.1 }

pub returns-in-148 : goal.returns-in-148
unfolding first_steps
returns-in-148 c =
    let q = first_steps_quarters _ 148 c.in-148.is (lit< tt) in
    record { first = q.0; second = q.1.0; third = q.1.1.0; fourth = q.1.1.1 }

pub returns-in-149 : goal.returns-in-149
unfolding first_steps
returns-in-149 c =
    let q = first_steps_quarters _ 149 c.in-149.is (lit< tt) in
    record { first = q.0; second = q.1.0; third = q.1.1.0; fourth = q.1.1.1 }

pub returns-in-150 : goal.returns-in-150
unfolding first_steps
returns-in-150 c =
    let q = first_steps_quarters _ 150 c.in-150.is (lit< tt) in
    record { first = q.0; second = q.1.0; third = q.1.1.0; fourth = q.1.1.1 }

pub returns-in-151 : goal.returns-in-151
unfolding first_steps
returns-in-151 c =
    let q = first_steps_quarters _ 151 c.in-151.is (lit< tt) in
    record { first = q.0; second = q.1.0; third = q.1.1.0; fourth = q.1.1.1 }

pub returns-in-152 : goal.returns-in-152
unfolding first_steps
returns-in-152 c =
    let q = first_steps_quarters _ 152 c.in-152.is (lit< tt) in
    record { first = q.0; second = q.1.0; third = q.1.1.0; fourth = q.1.1.1 }

pub returns-in-153 : goal.returns-in-153
unfolding first_steps
returns-in-153 c =
    let q = first_steps_quarters _ 153 c.in-153.is (lit< tt) in
    record { first = q.0; second = q.1.0; third = q.1.1.0; fourth = q.1.1.1 }

pub returns-in-154 : goal.returns-in-154
unfolding first_steps
returns-in-154 c =
    let q = first_steps_quarters _ 154 c.in-154.is (lit< tt) in
    record { first = q.0; second = q.1.0; third = q.1.1.0; fourth = q.1.1.1 }

pub returns-in-155 : goal.returns-in-155
unfolding first_steps
returns-in-155 c =
    let q = first_steps_quarters _ 155 c.in-155.is (lit< tt) in
    record { first = q.0; second = q.1.0; third = q.1.1.0; fourth = q.1.1.1 }

pub returns-in-156 : goal.returns-in-156
unfolding first_steps
returns-in-156 c =
    let q = first_steps_quarters _ 156 c.in-156.is (lit< tt) in
    record { first = q.0; second = q.1.0; third = q.1.1.0; fourth = q.1.1.1 }

pub returns-in-157 : goal.returns-in-157
unfolding first_steps
returns-in-157 c =
    let q = first_steps_quarters _ 157 c.in-157.is (lit< tt) in
    record { first = q.0; second = q.1.0; third = q.1.1.0; fourth = q.1.1.1 }

pub returns-in-158 : goal.returns-in-158
unfolding first_steps
returns-in-158 c =
    let q = first_steps_quarters _ 158 c.in-158.is (lit< tt) in
    record { first = q.0; second = q.1.0; third = q.1.1.0; fourth = q.1.1.1 }

pub returns-in-159 : goal.returns-in-159
unfolding first_steps
returns-in-159 c =
    let q = first_steps_quarters _ 159 c.in-159.is (lit< tt) in
    record { first = q.0; second = q.1.0; third = q.1.1.0; fourth = q.1.1.1 }

pub returns-in-160 : goal.returns-in-160
unfolding first_steps
returns-in-160 c =
    let q = first_steps_quarters _ 160 c.in-160.is (lit< tt) in
    record { first = q.0; second = q.1.0; third = q.1.1.0; fourth = q.1.1.1 }

pub returns-in-161 : goal.returns-in-161
unfolding first_steps
returns-in-161 c =
    let q = first_steps_quarters _ 161 c.in-161.is (lit< tt) in
    record { first = q.0; second = q.1.0; third = q.1.1.0; fourth = q.1.1.1 }

pub returns-in-162 : goal.returns-in-162
unfolding first_steps
returns-in-162 c =
    let q = first_steps_quarters _ 162 c.in-162.is (lit< tt) in
    record { first = q.0; second = q.1.0; third = q.1.1.0; fourth = q.1.1.1 }

pub returns-in-163 : goal.returns-in-163
unfolding first_steps
returns-in-163 c =
    let q = first_steps_quarters _ 163 c.in-163.is (lit< tt) in
    record { first = q.0; second = q.1.0; third = q.1.1.0; fourth = q.1.1.1 }

pub returns-in-164 : goal.returns-in-164
unfolding first_steps
returns-in-164 c =
    let q = first_steps_quarters _ 164 c.in-164.is (lit< tt) in
    record { first = q.0; second = q.1.0; third = q.1.1.0; fourth = q.1.1.1 }

pub returns-in-165 : goal.returns-in-165
unfolding first_steps
returns-in-165 c =
    let q = first_steps_quarters _ 165 c.in-165.is (lit< tt) in
    record { first = q.0; second = q.1.0; third = q.1.1.0; fourth = q.1.1.1 }

pub returns-in-166 : goal.returns-in-166
unfolding first_steps
returns-in-166 c =
    let q = first_steps_quarters _ 166 c.in-166.is (lit< tt) in
    record { first = q.0; second = q.1.0; third = q.1.1.0; fourth = q.1.1.1 }

pub returns-in-167 : goal.returns-in-167
unfolding first_steps
returns-in-167 c =
    let q = first_steps_quarters _ 167 c.in-167.is (lit< tt) in
    record { first = q.0; second = q.1.0; third = q.1.1.0; fourth = q.1.1.1 }

pub returns-in-168 : goal.returns-in-168
unfolding first_steps
returns-in-168 c =
    let q = first_steps_quarters _ 168 c.in-168.is (lit< tt) in
    record { first = q.0; second = q.1.0; third = q.1.1.0; fourth = q.1.1.1 }

pub returns-in-169 : goal.returns-in-169
unfolding first_steps
returns-in-169 c =
    let q = first_steps_quarters _ 169 c.in-169.is (lit< tt) in
    record { first = q.0; second = q.1.0; third = q.1.1.0; fourth = q.1.1.1 }

pub returns-in-170 : goal.returns-in-170
unfolding first_steps
returns-in-170 c =
    let q = first_steps_quarters _ 170 c.in-170.is (lit< tt) in
    record { first = q.0; second = q.1.0; third = q.1.1.0; fourth = q.1.1.1 }

pub returns-in-171 : goal.returns-in-171
unfolding first_steps
returns-in-171 c =
    let q = first_steps_quarters _ 171 c.in-171.is (lit< tt) in
    record { first = q.0; second = q.1.0; third = q.1.1.0; fourth = q.1.1.1 }

pub returns-in-172 : goal.returns-in-172
unfolding first_steps
returns-in-172 c =
    let q = first_steps_quarters _ 172 c.in-172.is (lit< tt) in
    record { first = q.0; second = q.1.0; third = q.1.1.0; fourth = q.1.1.1 }

pub returns-in-173 : goal.returns-in-173
unfolding first_steps
returns-in-173 c =
    let q = first_steps_quarters _ 173 c.in-173.is (lit< tt) in
    record { first = q.0; second = q.1.0; third = q.1.1.0; fourth = q.1.1.1 }

pub returns-in-174 : goal.returns-in-174
unfolding first_steps
returns-in-174 c =
    let q = first_steps_quarters _ 174 c.in-174.is (lit< tt) in
    record { first = q.0; second = q.1.0; third = q.1.1.0; fourth = q.1.1.1 }

pub returns-in-175 : goal.returns-in-175
unfolding first_steps
returns-in-175 c =
    let q = first_steps_quarters _ 175 c.in-175.is (lit< tt) in
    record { first = q.0; second = q.1.0; third = q.1.1.0; fourth = q.1.1.1 }

pub returns-in-176 : goal.returns-in-176
unfolding first_steps
returns-in-176 c =
    let q = first_steps_quarters _ 176 c.in-176.is (lit< tt) in
    record { first = q.0; second = q.1.0; third = q.1.1.0; fourth = q.1.1.1 }

pub returns-in-177 : goal.returns-in-177
unfolding first_steps
returns-in-177 c =
    let q = first_steps_quarters _ 177 c.in-177.is (lit< tt) in
    record { first = q.0; second = q.1.0; third = q.1.1.0; fourth = q.1.1.1 }

pub returns-in-178 : goal.returns-in-178
unfolding first_steps
returns-in-178 c =
    let q = first_steps_quarters _ 178 c.in-178.is (lit< tt) in
    record { first = q.0; second = q.1.0; third = q.1.1.0; fourth = q.1.1.1 }

pub returns-in-179 : goal.returns-in-179
unfolding first_steps
returns-in-179 c =
    let q = first_steps_quarters _ 179 c.in-179.is (lit< tt) in
    record { first = q.0; second = q.1.0; third = q.1.1.0; fourth = q.1.1.1 }

pub returns-in-180 : goal.returns-in-180
unfolding first_steps
returns-in-180 c =
    let q = first_steps_quarters _ 180 c.in-180.is (lit< tt) in
    record { first = q.0; second = q.1.0; third = q.1.1.0; fourth = q.1.1.1 }

pub returns-in-181 : goal.returns-in-181
unfolding first_steps
returns-in-181 c =
    let q = first_steps_quarters _ 181 c.in-181.is (lit< tt) in
    record { first = q.0; second = q.1.0; third = q.1.1.0; fourth = q.1.1.1 }

pub returns-in-182 : goal.returns-in-182
unfolding first_steps
returns-in-182 c =
    let q = first_steps_quarters _ 182 c.in-182.is (lit< tt) in
    record { first = q.0; second = q.1.0; third = q.1.1.0; fourth = q.1.1.1 }

pub returns-in-183 : goal.returns-in-183
unfolding first_steps
returns-in-183 c =
    let q = first_steps_quarters _ 183 c.in-183.is (lit< tt) in
    record { first = q.0; second = q.1.0; third = q.1.1.0; fourth = q.1.1.1 }

pub returns-in-184 : goal.returns-in-184
unfolding first_steps
returns-in-184 c =
    let q = first_steps_quarters _ 184 c.in-184.is (lit< tt) in
    record { first = q.0; second = q.1.0; third = q.1.1.0; fourth = q.1.1.1 }

pub returns-in-185 : goal.returns-in-185
unfolding first_steps
returns-in-185 c =
    let q = first_steps_quarters _ 185 c.in-185.is (lit< tt) in
    record { first = q.0; second = q.1.0; third = q.1.1.0; fourth = q.1.1.1 }

pub returns-in-186 : goal.returns-in-186
unfolding first_steps
returns-in-186 c =
    let q = first_steps_quarters _ 186 c.in-186.is (lit< tt) in
    record { first = q.0; second = q.1.0; third = q.1.1.0; fourth = q.1.1.1 }

pub returns-in-187 : goal.returns-in-187
unfolding first_steps
returns-in-187 c =
    let q = first_steps_quarters _ 187 c.in-187.is (lit< tt) in
    record { first = q.0; second = q.1.0; third = q.1.1.0; fourth = q.1.1.1 }

pub returns-in-188 : goal.returns-in-188
unfolding first_steps
returns-in-188 c =
    let q = first_steps_quarters _ 188 c.in-188.is (lit< tt) in
    record { first = q.0; second = q.1.0; third = q.1.1.0; fourth = q.1.1.1 }

pub returns-in-189 : goal.returns-in-189
unfolding first_steps
returns-in-189 c =
    let q = first_steps_quarters _ 189 c.in-189.is (lit< tt) in
    record { first = q.0; second = q.1.0; third = q.1.1.0; fourth = q.1.1.1 }

pub returns-in-190 : goal.returns-in-190
unfolding first_steps
returns-in-190 c =
    let q = first_steps_quarters _ 190 c.in-190.is (lit< tt) in
    record { first = q.0; second = q.1.0; third = q.1.1.0; fourth = q.1.1.1 }

pub returns-in-191 : goal.returns-in-191
unfolding first_steps
returns-in-191 c =
    let q = first_steps_quarters _ 191 c.in-191.is (lit< tt) in
    record { first = q.0; second = q.1.0; third = q.1.1.0; fourth = q.1.1.1 }

pub returns-in-192 : goal.returns-in-192
unfolding first_steps
returns-in-192 c =
    let q = first_steps_quarters _ 192 c.in-192.is (lit< tt) in
    record { first = q.0; second = q.1.0; third = q.1.1.0; fourth = q.1.1.1 }

pub returns-in-193 : goal.returns-in-193
unfolding first_steps
returns-in-193 c =
    let q = first_steps_quarters _ 193 c.in-193.is (lit< tt) in
    record { first = q.0; second = q.1.0; third = q.1.1.0; fourth = q.1.1.1 }

pub returns-in-194 : goal.returns-in-194
unfolding first_steps
returns-in-194 c =
    let q = first_steps_quarters _ 194 c.in-194.is (lit< tt) in
    record { first = q.0; second = q.1.0; third = q.1.1.0; fourth = q.1.1.1 }

pub returns-in-195 : goal.returns-in-195
unfolding first_steps
returns-in-195 c =
    let q = first_steps_quarters _ 195 c.in-195.is (lit< tt) in
    record { first = q.0; second = q.1.0; third = q.1.1.0; fourth = q.1.1.1 }

pub returns-in-196 : goal.returns-in-196
unfolding first_steps
returns-in-196 c =
    let q = first_steps_quarters _ 196 c.in-196.is (lit< tt) in
    record { first = q.0; second = q.1.0; third = q.1.1.0; fourth = q.1.1.1 }

pub returns-in-197 : goal.returns-in-197
unfolding first_steps
returns-in-197 c =
    let q = first_steps_quarters _ 197 c.in-197.is (lit< tt) in
    record { first = q.0; second = q.1.0; third = q.1.1.0; fourth = q.1.1.1 }

pub returns-in-198 : goal.returns-in-198
unfolding first_steps
returns-in-198 c =
    let q = first_steps_quarters _ 198 c.in-198.is (lit< tt) in
    record { first = q.0; second = q.1.0; third = q.1.1.0; fourth = q.1.1.1 }

pub returns-in-199 : goal.returns-in-199
unfolding first_steps
returns-in-199 c =
    let q = first_steps_quarters _ 199 c.in-199.is (lit< tt) in
    record { first = q.0; second = q.1.0; third = q.1.1.0; fourth = q.1.1.1 }

pub returns-in-200 : goal.returns-in-200
unfolding first_steps
returns-in-200 c =
    let q = first_steps_quarters _ 200 c.in-200.is (lit< tt) in
    record { first = q.0; second = q.1.0; third = q.1.1.0; fourth = q.1.1.1 }

pub returns-in-201 : goal.returns-in-201
unfolding first_steps
returns-in-201 c =
    let q = first_steps_quarters _ 201 c.in-201.is (lit< tt) in
    record { first = q.0; second = q.1.0; third = q.1.1.0; fourth = q.1.1.1 }

pub returns-in-202 : goal.returns-in-202
unfolding first_steps
returns-in-202 c =
    let q = first_steps_quarters _ 202 c.in-202.is (lit< tt) in
    record { first = q.0; second = q.1.0; third = q.1.1.0; fourth = q.1.1.1 }

pub returns-in-203 : goal.returns-in-203
unfolding first_steps
returns-in-203 c =
    let q = first_steps_quarters _ 203 c.in-203.is (lit< tt) in
    record { first = q.0; second = q.1.0; third = q.1.1.0; fourth = q.1.1.1 }

pub returns-in-204 : goal.returns-in-204
unfolding first_steps
returns-in-204 c =
    let q = first_steps_quarters _ 204 c.in-204.is (lit< tt) in
    record { first = q.0; second = q.1.0; third = q.1.1.0; fourth = q.1.1.1 }

pub returns-in-205 : goal.returns-in-205
unfolding first_steps
returns-in-205 c =
    let q = first_steps_quarters _ 205 c.in-205.is (lit< tt) in
    record { first = q.0; second = q.1.0; third = q.1.1.0; fourth = q.1.1.1 }

pub returns-in-206 : goal.returns-in-206
unfolding first_steps
returns-in-206 c =
    let q = first_steps_quarters _ 206 c.in-206.is (lit< tt) in
    record { first = q.0; second = q.1.0; third = q.1.1.0; fourth = q.1.1.1 }

pub returns-in-207 : goal.returns-in-207
unfolding first_steps
returns-in-207 c =
    let q = first_steps_quarters _ 207 c.in-207.is (lit< tt) in
    record { first = q.0; second = q.1.0; third = q.1.1.0; fourth = q.1.1.1 }

pub returns-in-208 : goal.returns-in-208
unfolding first_steps
returns-in-208 c =
    let q = first_steps_quarters _ 208 c.in-208.is (lit< tt) in
    record { first = q.0; second = q.1.0; third = q.1.1.0; fourth = q.1.1.1 }

pub returns-in-209 : goal.returns-in-209
unfolding first_steps
returns-in-209 c =
    let q = first_steps_quarters _ 209 c.in-209.is (lit< tt) in
    record { first = q.0; second = q.1.0; third = q.1.1.0; fourth = q.1.1.1 }

pub returns-in-210 : goal.returns-in-210
unfolding first_steps
returns-in-210 c =
    let q = first_steps_quarters _ 210 c.in-210.is (lit< tt) in
    record { first = q.0; second = q.1.0; third = q.1.1.0; fourth = q.1.1.1 }

pub returns-in-211 : goal.returns-in-211
unfolding first_steps
returns-in-211 c =
    let q = first_steps_quarters _ 211 c.in-211.is (lit< tt) in
    record { first = q.0; second = q.1.0; third = q.1.1.0; fourth = q.1.1.1 }

pub returns-in-212 : goal.returns-in-212
unfolding first_steps
returns-in-212 c =
    let q = first_steps_quarters _ 212 c.in-212.is (lit< tt) in
    record { first = q.0; second = q.1.0; third = q.1.1.0; fourth = q.1.1.1 }

pub returns-in-213 : goal.returns-in-213
unfolding first_steps
returns-in-213 c =
    let q = first_steps_quarters _ 213 c.in-213.is (lit< tt) in
    record { first = q.0; second = q.1.0; third = q.1.1.0; fourth = q.1.1.1 }

pub returns-in-214 : goal.returns-in-214
unfolding first_steps
returns-in-214 c =
    let q = first_steps_quarters _ 214 c.in-214.is (lit< tt) in
    record { first = q.0; second = q.1.0; third = q.1.1.0; fourth = q.1.1.1 }

pub returns-in-215 : goal.returns-in-215
unfolding first_steps
returns-in-215 c =
    let q = first_steps_quarters _ 215 c.in-215.is (lit< tt) in
    record { first = q.0; second = q.1.0; third = q.1.1.0; fourth = q.1.1.1 }

pub returns-in-216 : goal.returns-in-216
unfolding first_steps
returns-in-216 c =
    let q = first_steps_quarters _ 216 c.in-216.is (lit< tt) in
    record { first = q.0; second = q.1.0; third = q.1.1.0; fourth = q.1.1.1 }

pub returns-in-217 : goal.returns-in-217
unfolding first_steps
returns-in-217 c =
    let q = first_steps_quarters _ 217 c.in-217.is (lit< tt) in
    record { first = q.0; second = q.1.0; third = q.1.1.0; fourth = q.1.1.1 }

pub returns-in-218 : goal.returns-in-218
unfolding first_steps
returns-in-218 c =
    let q = first_steps_quarters _ 218 c.in-218.is (lit< tt) in
    record { first = q.0; second = q.1.0; third = q.1.1.0; fourth = q.1.1.1 }

pub returns-in-219 : goal.returns-in-219
unfolding first_steps
returns-in-219 c =
    let q = first_steps_quarters _ 219 c.in-219.is (lit< tt) in
    record { first = q.0; second = q.1.0; third = q.1.1.0; fourth = q.1.1.1 }

pub returns-in-220 : goal.returns-in-220
unfolding first_steps
returns-in-220 c =
    let q = first_steps_quarters _ 220 c.in-220.is (lit< tt) in
    record { first = q.0; second = q.1.0; third = q.1.1.0; fourth = q.1.1.1 }

pub returns-in-221 : goal.returns-in-221
unfolding first_steps
returns-in-221 c =
    let q = first_steps_quarters _ 221 c.in-221.is (lit< tt) in
    record { first = q.0; second = q.1.0; third = q.1.1.0; fourth = q.1.1.1 }

pub returns-in-222 : goal.returns-in-222
unfolding first_steps
returns-in-222 c =
    let q = first_steps_quarters _ 222 c.in-222.is (lit< tt) in
    record { first = q.0; second = q.1.0; third = q.1.1.0; fourth = q.1.1.1 }

pub returns-in-223 : goal.returns-in-223
unfolding first_steps
returns-in-223 c =
    let q = first_steps_quarters _ 223 c.in-223.is (lit< tt) in
    record { first = q.0; second = q.1.0; third = q.1.1.0; fourth = q.1.1.1 }

pub returns-in-224 : goal.returns-in-224
unfolding first_steps
returns-in-224 c =
    let q = first_steps_quarters _ 224 c.in-224.is (lit< tt) in
    record { first = q.0; second = q.1.0; third = q.1.1.0; fourth = q.1.1.1 }

pub returns-in-225 : goal.returns-in-225
unfolding first_steps
returns-in-225 c =
    let q = first_steps_quarters _ 225 c.in-225.is (lit< tt) in
    record { first = q.0; second = q.1.0; third = q.1.1.0; fourth = q.1.1.1 }

pub returns-in-226 : goal.returns-in-226
unfolding first_steps
returns-in-226 c =
    let q = first_steps_quarters _ 226 c.in-226.is (lit< tt) in
    record { first = q.0; second = q.1.0; third = q.1.1.0; fourth = q.1.1.1 }

pub returns-in-227 : goal.returns-in-227
unfolding first_steps
returns-in-227 c =
    let q = first_steps_quarters _ 227 c.in-227.is (lit< tt) in
    record { first = q.0; second = q.1.0; third = q.1.1.0; fourth = q.1.1.1 }

pub returns-in-228 : goal.returns-in-228
unfolding first_steps
returns-in-228 c =
    let q = first_steps_quarters _ 228 c.in-228.is (lit< tt) in
    record { first = q.0; second = q.1.0; third = q.1.1.0; fourth = q.1.1.1 }

pub returns-in-229 : goal.returns-in-229
unfolding first_steps
returns-in-229 c =
    let q = first_steps_quarters _ 229 c.in-229.is (lit< tt) in
    record { first = q.0; second = q.1.0; third = q.1.1.0; fourth = q.1.1.1 }

pub returns-in-230 : goal.returns-in-230
unfolding first_steps
returns-in-230 c =
    let q = first_steps_quarters _ 230 c.in-230.is (lit< tt) in
    record { first = q.0; second = q.1.0; third = q.1.1.0; fourth = q.1.1.1 }

pub returns-in-231 : goal.returns-in-231
unfolding first_steps
returns-in-231 c =
    let q = first_steps_quarters _ 231 c.in-231.is (lit< tt) in
    record { first = q.0; second = q.1.0; third = q.1.1.0; fourth = q.1.1.1 }

pub returns-in-232 : goal.returns-in-232
unfolding first_steps
returns-in-232 c =
    let q = first_steps_quarters _ 232 c.in-232.is (lit< tt) in
    record { first = q.0; second = q.1.0; third = q.1.1.0; fourth = q.1.1.1 }

pub returns-in-233 : goal.returns-in-233
unfolding first_steps
returns-in-233 c =
    let q = first_steps_quarters _ 233 c.in-233.is (lit< tt) in
    record { first = q.0; second = q.1.0; third = q.1.1.0; fourth = q.1.1.1 }

pub returns-in-234 : goal.returns-in-234
unfolding first_steps
returns-in-234 c =
    let q = first_steps_quarters _ 234 c.in-234.is (lit< tt) in
    record { first = q.0; second = q.1.0; third = q.1.1.0; fourth = q.1.1.1 }

pub returns-in-235 : goal.returns-in-235
unfolding first_steps
returns-in-235 c =
    let q = first_steps_quarters _ 235 c.in-235.is (lit< tt) in
    record { first = q.0; second = q.1.0; third = q.1.1.0; fourth = q.1.1.1 }

pub returns-in-236 : goal.returns-in-236
unfolding first_steps
returns-in-236 c =
    let q = first_steps_quarters _ 236 c.in-236.is (lit< tt) in
    record { first = q.0; second = q.1.0; third = q.1.1.0; fourth = q.1.1.1 }

pub returns-in-237 : goal.returns-in-237
unfolding first_steps
returns-in-237 c =
    let q = first_steps_quarters _ 237 c.in-237.is (lit< tt) in
    record { first = q.0; second = q.1.0; third = q.1.1.0; fourth = q.1.1.1 }

pub returns-in-238 : goal.returns-in-238
unfolding first_steps
returns-in-238 c =
    let q = first_steps_quarters _ 238 c.in-238.is (lit< tt) in
    record { first = q.0; second = q.1.0; third = q.1.1.0; fourth = q.1.1.1 }

pub returns-in-239 : goal.returns-in-239
unfolding first_steps
returns-in-239 c =
    let q = first_steps_quarters _ 239 c.in-239.is (lit< tt) in
    record { first = q.0; second = q.1.0; third = q.1.1.0; fourth = q.1.1.1 }

pub returns-in-240 : goal.returns-in-240
unfolding first_steps
returns-in-240 c =
    let q = first_steps_quarters _ 240 c.in-240.is (lit< tt) in
    record { first = q.0; second = q.1.0; third = q.1.1.0; fourth = q.1.1.1 }

pub returns-in-241 : goal.returns-in-241
unfolding first_steps
returns-in-241 c =
    let q = first_steps_quarters _ 241 c.in-241.is (lit< tt) in
    record { first = q.0; second = q.1.0; third = q.1.1.0; fourth = q.1.1.1 }

pub returns-in-242 : goal.returns-in-242
unfolding first_steps
returns-in-242 c =
    let q = first_steps_quarters _ 242 c.in-242.is (lit< tt) in
    record { first = q.0; second = q.1.0; third = q.1.1.0; fourth = q.1.1.1 }

pub returns-in-243 : goal.returns-in-243
unfolding first_steps
returns-in-243 c =
    let q = first_steps_quarters _ 243 c.in-243.is (lit< tt) in
    record { first = q.0; second = q.1.0; third = q.1.1.0; fourth = q.1.1.1 }

pub returns-in-244 : goal.returns-in-244
unfolding first_steps
returns-in-244 c =
    let q = first_steps_quarters _ 244 c.in-244.is (lit< tt) in
    record { first = q.0; second = q.1.0; third = q.1.1.0; fourth = q.1.1.1 }

pub returns-in-245 : goal.returns-in-245
unfolding first_steps
returns-in-245 c =
    let q = first_steps_quarters _ 245 c.in-245.is (lit< tt) in
    record { first = q.0; second = q.1.0; third = q.1.1.0; fourth = q.1.1.1 }

pub returns-in-246 : goal.returns-in-246
unfolding first_steps
returns-in-246 c =
    let q = first_steps_quarters _ 246 c.in-246.is (lit< tt) in
    record { first = q.0; second = q.1.0; third = q.1.1.0; fourth = q.1.1.1 }

pub returns-in-247 : goal.returns-in-247
unfolding first_steps
returns-in-247 c =
    let q = first_steps_quarters _ 247 c.in-247.is (lit< tt) in
    record { first = q.0; second = q.1.0; third = q.1.1.0; fourth = q.1.1.1 }

pub returns-in-248 : goal.returns-in-248
unfolding first_steps
returns-in-248 c =
    let q = first_steps_quarters _ 248 c.in-248.is (lit< tt) in
    record { first = q.0; second = q.1.0; third = q.1.1.0; fourth = q.1.1.1 }

pub returns-in-249 : goal.returns-in-249
unfolding first_steps
returns-in-249 c =
    let q = first_steps_quarters _ 249 c.in-249.is (lit< tt) in
    record { first = q.0; second = q.1.0; third = q.1.1.0; fourth = q.1.1.1 }

pub returns-in-250 : goal.returns-in-250
unfolding first_steps
returns-in-250 c =
    let q = first_steps_quarters _ 250 c.in-250.is (lit< tt) in
    record { first = q.0; second = q.1.0; third = q.1.1.0; fourth = q.1.1.1 }

pub returns-in-251 : goal.returns-in-251
unfolding first_steps
returns-in-251 c =
    let q = first_steps_quarters _ 251 c.in-251.is (lit< tt) in
    record { first = q.0; second = q.1.0; third = q.1.1.0; fourth = q.1.1.1 }

pub returns-in-252 : goal.returns-in-252
unfolding first_steps
returns-in-252 c =
    let q = first_steps_quarters _ 252 c.in-252.is (lit< tt) in
    record { first = q.0; second = q.1.0; third = q.1.1.0; fourth = q.1.1.1 }

pub returns-in-253 : goal.returns-in-253
unfolding first_steps
returns-in-253 c =
    let q = first_steps_quarters _ 253 c.in-253.is (lit< tt) in
    record { first = q.0; second = q.1.0; third = q.1.1.0; fourth = q.1.1.1 }

pub returns-in-254 : goal.returns-in-254
unfolding first_steps
returns-in-254 c =
    let q = first_steps_quarters _ 254 c.in-254.is (lit< tt) in
    record { first = q.0; second = q.1.0; third = q.1.1.0; fourth = q.1.1.1 }

pub returns-in-255 : goal.returns-in-255
unfolding first_steps
returns-in-255 c =
    let q = first_steps_quarters _ 255 c.in-255.is (lit< tt) in
    record { first = q.0; second = q.1.0; third = q.1.1.0; fourth = q.1.1.1 }
