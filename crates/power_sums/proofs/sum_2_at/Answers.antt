-- The result is what stands at its place of the table.
-- No loop; each arm is an entry of the list `sum_2`, by `sum_2_at`, and no number below 128 is left for the last.
use lib.Dec.{lit<}
use mathlib.Core.Path.{◌∙◌}
use Rattle.power_sums.proofs.Rows.{sum_2, sum_2_at}
use Rattle.power_sums.proofs.sum_2_at.Goals as goal

pub returns-in-0 : goal.returns-in-0
unfolding sum_2
returns-in-0 c b e = sum_2_at b 0 (e ∙ c.in-0.is) (lit< tt)

pub returns-in-1 : goal.returns-in-1
unfolding sum_2
returns-in-1 c b e = sum_2_at b 1 (e ∙ c.in-1.is) (lit< tt)

pub returns-in-2 : goal.returns-in-2
unfolding sum_2
returns-in-2 c b e = sum_2_at b 2 (e ∙ c.in-2.is) (lit< tt)

pub returns-in-3 : goal.returns-in-3
unfolding sum_2
returns-in-3 c b e = sum_2_at b 3 (e ∙ c.in-3.is) (lit< tt)

pub returns-in-4 : goal.returns-in-4
unfolding sum_2
returns-in-4 c b e = sum_2_at b 4 (e ∙ c.in-4.is) (lit< tt)

pub returns-in-5 : goal.returns-in-5
unfolding sum_2
returns-in-5 c b e = sum_2_at b 5 (e ∙ c.in-5.is) (lit< tt)

pub returns-in-6 : goal.returns-in-6
unfolding sum_2
returns-in-6 c b e = sum_2_at b 6 (e ∙ c.in-6.is) (lit< tt)

pub returns-in-7 : goal.returns-in-7
unfolding sum_2
returns-in-7 c b e = sum_2_at b 7 (e ∙ c.in-7.is) (lit< tt)

pub returns-in-8 : goal.returns-in-8
unfolding sum_2
returns-in-8 c b e = sum_2_at b 8 (e ∙ c.in-8.is) (lit< tt)

pub returns-in-9 : goal.returns-in-9
unfolding sum_2
returns-in-9 c b e = sum_2_at b 9 (e ∙ c.in-9.is) (lit< tt)

pub returns-in-10 : goal.returns-in-10
unfolding sum_2
returns-in-10 c b e = sum_2_at b 10 (e ∙ c.in-10.is) (lit< tt)

pub returns-in-11 : goal.returns-in-11
unfolding sum_2
returns-in-11 c b e = sum_2_at b 11 (e ∙ c.in-11.is) (lit< tt)

pub returns-in-12 : goal.returns-in-12
unfolding sum_2
returns-in-12 c b e = sum_2_at b 12 (e ∙ c.in-12.is) (lit< tt)

pub returns-in-13 : goal.returns-in-13
unfolding sum_2
returns-in-13 c b e = sum_2_at b 13 (e ∙ c.in-13.is) (lit< tt)

pub returns-in-14 : goal.returns-in-14
unfolding sum_2
returns-in-14 c b e = sum_2_at b 14 (e ∙ c.in-14.is) (lit< tt)

pub returns-in-15 : goal.returns-in-15
unfolding sum_2
returns-in-15 c b e = sum_2_at b 15 (e ∙ c.in-15.is) (lit< tt)

pub returns-in-16 : goal.returns-in-16
unfolding sum_2
returns-in-16 c b e = sum_2_at b 16 (e ∙ c.in-16.is) (lit< tt)

pub returns-in-17 : goal.returns-in-17
unfolding sum_2
returns-in-17 c b e = sum_2_at b 17 (e ∙ c.in-17.is) (lit< tt)

pub returns-in-18 : goal.returns-in-18
unfolding sum_2
returns-in-18 c b e = sum_2_at b 18 (e ∙ c.in-18.is) (lit< tt)

pub returns-in-19 : goal.returns-in-19
unfolding sum_2
returns-in-19 c b e = sum_2_at b 19 (e ∙ c.in-19.is) (lit< tt)

pub returns-in-20 : goal.returns-in-20
unfolding sum_2
returns-in-20 c b e = sum_2_at b 20 (e ∙ c.in-20.is) (lit< tt)

pub returns-in-21 : goal.returns-in-21
unfolding sum_2
returns-in-21 c b e = sum_2_at b 21 (e ∙ c.in-21.is) (lit< tt)

pub returns-in-22 : goal.returns-in-22
unfolding sum_2
returns-in-22 c b e = sum_2_at b 22 (e ∙ c.in-22.is) (lit< tt)

pub returns-in-23 : goal.returns-in-23
unfolding sum_2
returns-in-23 c b e = sum_2_at b 23 (e ∙ c.in-23.is) (lit< tt)

pub returns-in-24 : goal.returns-in-24
unfolding sum_2
returns-in-24 c b e = sum_2_at b 24 (e ∙ c.in-24.is) (lit< tt)

pub returns-in-25 : goal.returns-in-25
unfolding sum_2
returns-in-25 c b e = sum_2_at b 25 (e ∙ c.in-25.is) (lit< tt)

pub returns-in-26 : goal.returns-in-26
unfolding sum_2
returns-in-26 c b e = sum_2_at b 26 (e ∙ c.in-26.is) (lit< tt)

pub returns-in-27 : goal.returns-in-27
unfolding sum_2
returns-in-27 c b e = sum_2_at b 27 (e ∙ c.in-27.is) (lit< tt)

pub returns-in-28 : goal.returns-in-28
unfolding sum_2
returns-in-28 c b e = sum_2_at b 28 (e ∙ c.in-28.is) (lit< tt)

pub returns-in-29 : goal.returns-in-29
unfolding sum_2
returns-in-29 c b e = sum_2_at b 29 (e ∙ c.in-29.is) (lit< tt)

pub returns-in-30 : goal.returns-in-30
unfolding sum_2
returns-in-30 c b e = sum_2_at b 30 (e ∙ c.in-30.is) (lit< tt)

pub returns-in-31 : goal.returns-in-31
unfolding sum_2
returns-in-31 c b e = sum_2_at b 31 (e ∙ c.in-31.is) (lit< tt)

pub returns-in-32 : goal.returns-in-32
unfolding sum_2
returns-in-32 c b e = sum_2_at b 32 (e ∙ c.in-32.is) (lit< tt)

pub returns-in-33 : goal.returns-in-33
unfolding sum_2
returns-in-33 c b e = sum_2_at b 33 (e ∙ c.in-33.is) (lit< tt)

pub returns-in-34 : goal.returns-in-34
unfolding sum_2
returns-in-34 c b e = sum_2_at b 34 (e ∙ c.in-34.is) (lit< tt)

pub returns-in-35 : goal.returns-in-35
unfolding sum_2
returns-in-35 c b e = sum_2_at b 35 (e ∙ c.in-35.is) (lit< tt)

pub returns-in-36 : goal.returns-in-36
unfolding sum_2
returns-in-36 c b e = sum_2_at b 36 (e ∙ c.in-36.is) (lit< tt)

pub returns-in-37 : goal.returns-in-37
unfolding sum_2
returns-in-37 c b e = sum_2_at b 37 (e ∙ c.in-37.is) (lit< tt)

pub returns-in-38 : goal.returns-in-38
unfolding sum_2
returns-in-38 c b e = sum_2_at b 38 (e ∙ c.in-38.is) (lit< tt)

pub returns-in-39 : goal.returns-in-39
unfolding sum_2
returns-in-39 c b e = sum_2_at b 39 (e ∙ c.in-39.is) (lit< tt)

pub returns-in-40 : goal.returns-in-40
unfolding sum_2
returns-in-40 c b e = sum_2_at b 40 (e ∙ c.in-40.is) (lit< tt)

pub returns-in-41 : goal.returns-in-41
unfolding sum_2
returns-in-41 c b e = sum_2_at b 41 (e ∙ c.in-41.is) (lit< tt)

pub returns-in-42 : goal.returns-in-42
unfolding sum_2
returns-in-42 c b e = sum_2_at b 42 (e ∙ c.in-42.is) (lit< tt)

pub returns-in-43 : goal.returns-in-43
unfolding sum_2
returns-in-43 c b e = sum_2_at b 43 (e ∙ c.in-43.is) (lit< tt)

pub returns-in-44 : goal.returns-in-44
unfolding sum_2
returns-in-44 c b e = sum_2_at b 44 (e ∙ c.in-44.is) (lit< tt)

pub returns-in-45 : goal.returns-in-45
unfolding sum_2
returns-in-45 c b e = sum_2_at b 45 (e ∙ c.in-45.is) (lit< tt)

pub returns-in-46 : goal.returns-in-46
unfolding sum_2
returns-in-46 c b e = sum_2_at b 46 (e ∙ c.in-46.is) (lit< tt)

pub returns-in-47 : goal.returns-in-47
unfolding sum_2
returns-in-47 c b e = sum_2_at b 47 (e ∙ c.in-47.is) (lit< tt)

pub returns-in-48 : goal.returns-in-48
unfolding sum_2
returns-in-48 c b e = sum_2_at b 48 (e ∙ c.in-48.is) (lit< tt)

pub returns-in-49 : goal.returns-in-49
unfolding sum_2
returns-in-49 c b e = sum_2_at b 49 (e ∙ c.in-49.is) (lit< tt)

pub returns-in-50 : goal.returns-in-50
unfolding sum_2
returns-in-50 c b e = sum_2_at b 50 (e ∙ c.in-50.is) (lit< tt)

pub returns-in-51 : goal.returns-in-51
unfolding sum_2
returns-in-51 c b e = sum_2_at b 51 (e ∙ c.in-51.is) (lit< tt)

pub returns-in-52 : goal.returns-in-52
unfolding sum_2
returns-in-52 c b e = sum_2_at b 52 (e ∙ c.in-52.is) (lit< tt)

pub returns-in-53 : goal.returns-in-53
unfolding sum_2
returns-in-53 c b e = sum_2_at b 53 (e ∙ c.in-53.is) (lit< tt)

pub returns-in-54 : goal.returns-in-54
unfolding sum_2
returns-in-54 c b e = sum_2_at b 54 (e ∙ c.in-54.is) (lit< tt)

pub returns-in-55 : goal.returns-in-55
unfolding sum_2
returns-in-55 c b e = sum_2_at b 55 (e ∙ c.in-55.is) (lit< tt)

pub returns-in-56 : goal.returns-in-56
unfolding sum_2
returns-in-56 c b e = sum_2_at b 56 (e ∙ c.in-56.is) (lit< tt)

pub returns-in-57 : goal.returns-in-57
unfolding sum_2
returns-in-57 c b e = sum_2_at b 57 (e ∙ c.in-57.is) (lit< tt)

pub returns-in-58 : goal.returns-in-58
unfolding sum_2
returns-in-58 c b e = sum_2_at b 58 (e ∙ c.in-58.is) (lit< tt)

pub returns-in-59 : goal.returns-in-59
unfolding sum_2
returns-in-59 c b e = sum_2_at b 59 (e ∙ c.in-59.is) (lit< tt)

pub returns-in-60 : goal.returns-in-60
unfolding sum_2
returns-in-60 c b e = sum_2_at b 60 (e ∙ c.in-60.is) (lit< tt)

pub returns-in-61 : goal.returns-in-61
unfolding sum_2
returns-in-61 c b e = sum_2_at b 61 (e ∙ c.in-61.is) (lit< tt)

pub returns-in-62 : goal.returns-in-62
unfolding sum_2
returns-in-62 c b e = sum_2_at b 62 (e ∙ c.in-62.is) (lit< tt)

pub returns-in-63 : goal.returns-in-63
unfolding sum_2
returns-in-63 c b e = sum_2_at b 63 (e ∙ c.in-63.is) (lit< tt)

pub returns-in-64 : goal.returns-in-64
unfolding sum_2
returns-in-64 c b e = sum_2_at b 64 (e ∙ c.in-64.is) (lit< tt)

pub returns-in-65 : goal.returns-in-65
unfolding sum_2
returns-in-65 c b e = sum_2_at b 65 (e ∙ c.in-65.is) (lit< tt)

pub returns-in-66 : goal.returns-in-66
unfolding sum_2
returns-in-66 c b e = sum_2_at b 66 (e ∙ c.in-66.is) (lit< tt)

pub returns-in-67 : goal.returns-in-67
unfolding sum_2
returns-in-67 c b e = sum_2_at b 67 (e ∙ c.in-67.is) (lit< tt)

pub returns-in-68 : goal.returns-in-68
unfolding sum_2
returns-in-68 c b e = sum_2_at b 68 (e ∙ c.in-68.is) (lit< tt)

pub returns-in-69 : goal.returns-in-69
unfolding sum_2
returns-in-69 c b e = sum_2_at b 69 (e ∙ c.in-69.is) (lit< tt)

pub returns-in-70 : goal.returns-in-70
unfolding sum_2
returns-in-70 c b e = sum_2_at b 70 (e ∙ c.in-70.is) (lit< tt)

pub returns-in-71 : goal.returns-in-71
unfolding sum_2
returns-in-71 c b e = sum_2_at b 71 (e ∙ c.in-71.is) (lit< tt)

pub returns-in-72 : goal.returns-in-72
unfolding sum_2
returns-in-72 c b e = sum_2_at b 72 (e ∙ c.in-72.is) (lit< tt)

pub returns-in-73 : goal.returns-in-73
unfolding sum_2
returns-in-73 c b e = sum_2_at b 73 (e ∙ c.in-73.is) (lit< tt)

pub returns-in-74 : goal.returns-in-74
unfolding sum_2
returns-in-74 c b e = sum_2_at b 74 (e ∙ c.in-74.is) (lit< tt)

pub returns-in-75 : goal.returns-in-75
unfolding sum_2
returns-in-75 c b e = sum_2_at b 75 (e ∙ c.in-75.is) (lit< tt)

pub returns-in-76 : goal.returns-in-76
unfolding sum_2
returns-in-76 c b e = sum_2_at b 76 (e ∙ c.in-76.is) (lit< tt)

pub returns-in-77 : goal.returns-in-77
unfolding sum_2
returns-in-77 c b e = sum_2_at b 77 (e ∙ c.in-77.is) (lit< tt)

pub returns-in-78 : goal.returns-in-78
unfolding sum_2
returns-in-78 c b e = sum_2_at b 78 (e ∙ c.in-78.is) (lit< tt)

pub returns-in-79 : goal.returns-in-79
unfolding sum_2
returns-in-79 c b e = sum_2_at b 79 (e ∙ c.in-79.is) (lit< tt)

pub returns-in-80 : goal.returns-in-80
unfolding sum_2
returns-in-80 c b e = sum_2_at b 80 (e ∙ c.in-80.is) (lit< tt)

pub returns-in-81 : goal.returns-in-81
unfolding sum_2
returns-in-81 c b e = sum_2_at b 81 (e ∙ c.in-81.is) (lit< tt)

pub returns-in-82 : goal.returns-in-82
unfolding sum_2
returns-in-82 c b e = sum_2_at b 82 (e ∙ c.in-82.is) (lit< tt)

pub returns-in-83 : goal.returns-in-83
unfolding sum_2
returns-in-83 c b e = sum_2_at b 83 (e ∙ c.in-83.is) (lit< tt)

pub returns-in-84 : goal.returns-in-84
unfolding sum_2
returns-in-84 c b e = sum_2_at b 84 (e ∙ c.in-84.is) (lit< tt)

pub returns-in-85 : goal.returns-in-85
unfolding sum_2
returns-in-85 c b e = sum_2_at b 85 (e ∙ c.in-85.is) (lit< tt)

pub returns-in-86 : goal.returns-in-86
unfolding sum_2
returns-in-86 c b e = sum_2_at b 86 (e ∙ c.in-86.is) (lit< tt)

pub returns-in-87 : goal.returns-in-87
unfolding sum_2
returns-in-87 c b e = sum_2_at b 87 (e ∙ c.in-87.is) (lit< tt)

pub returns-in-88 : goal.returns-in-88
unfolding sum_2
returns-in-88 c b e = sum_2_at b 88 (e ∙ c.in-88.is) (lit< tt)

pub returns-in-89 : goal.returns-in-89
unfolding sum_2
returns-in-89 c b e = sum_2_at b 89 (e ∙ c.in-89.is) (lit< tt)

pub returns-in-90 : goal.returns-in-90
unfolding sum_2
returns-in-90 c b e = sum_2_at b 90 (e ∙ c.in-90.is) (lit< tt)

pub returns-in-91 : goal.returns-in-91
unfolding sum_2
returns-in-91 c b e = sum_2_at b 91 (e ∙ c.in-91.is) (lit< tt)

pub returns-in-92 : goal.returns-in-92
unfolding sum_2
returns-in-92 c b e = sum_2_at b 92 (e ∙ c.in-92.is) (lit< tt)

pub returns-in-93 : goal.returns-in-93
unfolding sum_2
returns-in-93 c b e = sum_2_at b 93 (e ∙ c.in-93.is) (lit< tt)

pub returns-in-94 : goal.returns-in-94
unfolding sum_2
returns-in-94 c b e = sum_2_at b 94 (e ∙ c.in-94.is) (lit< tt)

pub returns-in-95 : goal.returns-in-95
unfolding sum_2
returns-in-95 c b e = sum_2_at b 95 (e ∙ c.in-95.is) (lit< tt)

pub returns-in-96 : goal.returns-in-96
unfolding sum_2
returns-in-96 c b e = sum_2_at b 96 (e ∙ c.in-96.is) (lit< tt)

pub returns-in-97 : goal.returns-in-97
unfolding sum_2
returns-in-97 c b e = sum_2_at b 97 (e ∙ c.in-97.is) (lit< tt)

pub returns-in-98 : goal.returns-in-98
unfolding sum_2
returns-in-98 c b e = sum_2_at b 98 (e ∙ c.in-98.is) (lit< tt)

pub returns-in-99 : goal.returns-in-99
unfolding sum_2
returns-in-99 c b e = sum_2_at b 99 (e ∙ c.in-99.is) (lit< tt)

pub returns-in-100 : goal.returns-in-100
unfolding sum_2
returns-in-100 c b e = sum_2_at b 100 (e ∙ c.in-100.is) (lit< tt)

pub returns-in-101 : goal.returns-in-101
unfolding sum_2
returns-in-101 c b e = sum_2_at b 101 (e ∙ c.in-101.is) (lit< tt)

pub returns-in-102 : goal.returns-in-102
unfolding sum_2
returns-in-102 c b e = sum_2_at b 102 (e ∙ c.in-102.is) (lit< tt)

pub returns-in-103 : goal.returns-in-103
unfolding sum_2
returns-in-103 c b e = sum_2_at b 103 (e ∙ c.in-103.is) (lit< tt)

pub returns-in-104 : goal.returns-in-104
unfolding sum_2
returns-in-104 c b e = sum_2_at b 104 (e ∙ c.in-104.is) (lit< tt)

pub returns-in-105 : goal.returns-in-105
unfolding sum_2
returns-in-105 c b e = sum_2_at b 105 (e ∙ c.in-105.is) (lit< tt)

pub returns-in-106 : goal.returns-in-106
unfolding sum_2
returns-in-106 c b e = sum_2_at b 106 (e ∙ c.in-106.is) (lit< tt)

pub returns-in-107 : goal.returns-in-107
unfolding sum_2
returns-in-107 c b e = sum_2_at b 107 (e ∙ c.in-107.is) (lit< tt)

pub returns-in-108 : goal.returns-in-108
unfolding sum_2
returns-in-108 c b e = sum_2_at b 108 (e ∙ c.in-108.is) (lit< tt)

pub returns-in-109 : goal.returns-in-109
unfolding sum_2
returns-in-109 c b e = sum_2_at b 109 (e ∙ c.in-109.is) (lit< tt)

pub returns-in-110 : goal.returns-in-110
unfolding sum_2
returns-in-110 c b e = sum_2_at b 110 (e ∙ c.in-110.is) (lit< tt)

pub returns-in-111 : goal.returns-in-111
unfolding sum_2
returns-in-111 c b e = sum_2_at b 111 (e ∙ c.in-111.is) (lit< tt)

pub returns-in-112 : goal.returns-in-112
unfolding sum_2
returns-in-112 c b e = sum_2_at b 112 (e ∙ c.in-112.is) (lit< tt)

pub returns-in-113 : goal.returns-in-113
unfolding sum_2
returns-in-113 c b e = sum_2_at b 113 (e ∙ c.in-113.is) (lit< tt)

pub returns-in-114 : goal.returns-in-114
unfolding sum_2
returns-in-114 c b e = sum_2_at b 114 (e ∙ c.in-114.is) (lit< tt)

pub returns-in-115 : goal.returns-in-115
unfolding sum_2
returns-in-115 c b e = sum_2_at b 115 (e ∙ c.in-115.is) (lit< tt)

pub returns-in-116 : goal.returns-in-116
unfolding sum_2
returns-in-116 c b e = sum_2_at b 116 (e ∙ c.in-116.is) (lit< tt)

pub returns-in-117 : goal.returns-in-117
unfolding sum_2
returns-in-117 c b e = sum_2_at b 117 (e ∙ c.in-117.is) (lit< tt)

pub returns-in-118 : goal.returns-in-118
unfolding sum_2
returns-in-118 c b e = sum_2_at b 118 (e ∙ c.in-118.is) (lit< tt)

pub returns-in-119 : goal.returns-in-119
unfolding sum_2
returns-in-119 c b e = sum_2_at b 119 (e ∙ c.in-119.is) (lit< tt)

pub returns-in-120 : goal.returns-in-120
unfolding sum_2
returns-in-120 c b e = sum_2_at b 120 (e ∙ c.in-120.is) (lit< tt)

pub returns-in-121 : goal.returns-in-121
unfolding sum_2
returns-in-121 c b e = sum_2_at b 121 (e ∙ c.in-121.is) (lit< tt)

pub returns-in-122 : goal.returns-in-122
unfolding sum_2
returns-in-122 c b e = sum_2_at b 122 (e ∙ c.in-122.is) (lit< tt)

pub returns-in-123 : goal.returns-in-123
unfolding sum_2
returns-in-123 c b e = sum_2_at b 123 (e ∙ c.in-123.is) (lit< tt)

pub returns-in-124 : goal.returns-in-124
unfolding sum_2
returns-in-124 c b e = sum_2_at b 124 (e ∙ c.in-124.is) (lit< tt)

pub returns-in-125 : goal.returns-in-125
unfolding sum_2
returns-in-125 c b e = sum_2_at b 125 (e ∙ c.in-125.is) (lit< tt)

pub returns-in-126 : goal.returns-in-126
unfolding sum_2
returns-in-126 c b e = sum_2_at b 126 (e ∙ c.in-126.is) (lit< tt)

pub returns-in-127 : goal.returns-in-127
unfolding sum_2
returns-in-127 c b e = sum_2_at b 127 (e ∙ c.in-127.is) (lit< tt)
