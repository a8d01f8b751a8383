-- The result is what stands at its place of the table.
-- No loop; each arm is an entry of the list `product_1`, by `product_1_at`, and no number below 256 is left for the last.
use lib.Dec.{lit<}
use mathlib.Core.Path.{◌∙◌}
use Rattle.power_products.proofs.Rows.{product_1, product_1_at}
use Rattle.power_products.proofs.product_1_at.Goals as goal

pub returns-in-0 : goal.returns-in-0
unfolding product_1
returns-in-0 c b e = product_1_at b 0 (e ∙ c.in-0.is) (lit< tt)

pub returns-in-1 : goal.returns-in-1
unfolding product_1
returns-in-1 c b e = product_1_at b 1 (e ∙ c.in-1.is) (lit< tt)

pub returns-in-2 : goal.returns-in-2
unfolding product_1
returns-in-2 c b e = product_1_at b 2 (e ∙ c.in-2.is) (lit< tt)

pub returns-in-3 : goal.returns-in-3
unfolding product_1
returns-in-3 c b e = product_1_at b 3 (e ∙ c.in-3.is) (lit< tt)

pub returns-in-4 : goal.returns-in-4
unfolding product_1
returns-in-4 c b e = product_1_at b 4 (e ∙ c.in-4.is) (lit< tt)

pub returns-in-5 : goal.returns-in-5
unfolding product_1
returns-in-5 c b e = product_1_at b 5 (e ∙ c.in-5.is) (lit< tt)

pub returns-in-6 : goal.returns-in-6
unfolding product_1
returns-in-6 c b e = product_1_at b 6 (e ∙ c.in-6.is) (lit< tt)

pub returns-in-7 : goal.returns-in-7
unfolding product_1
returns-in-7 c b e = product_1_at b 7 (e ∙ c.in-7.is) (lit< tt)

pub returns-in-8 : goal.returns-in-8
unfolding product_1
returns-in-8 c b e = product_1_at b 8 (e ∙ c.in-8.is) (lit< tt)

pub returns-in-9 : goal.returns-in-9
unfolding product_1
returns-in-9 c b e = product_1_at b 9 (e ∙ c.in-9.is) (lit< tt)

pub returns-in-10 : goal.returns-in-10
unfolding product_1
returns-in-10 c b e = product_1_at b 10 (e ∙ c.in-10.is) (lit< tt)

pub returns-in-11 : goal.returns-in-11
unfolding product_1
returns-in-11 c b e = product_1_at b 11 (e ∙ c.in-11.is) (lit< tt)

pub returns-in-12 : goal.returns-in-12
unfolding product_1
returns-in-12 c b e = product_1_at b 12 (e ∙ c.in-12.is) (lit< tt)

pub returns-in-13 : goal.returns-in-13
unfolding product_1
returns-in-13 c b e = product_1_at b 13 (e ∙ c.in-13.is) (lit< tt)

pub returns-in-14 : goal.returns-in-14
unfolding product_1
returns-in-14 c b e = product_1_at b 14 (e ∙ c.in-14.is) (lit< tt)

pub returns-in-15 : goal.returns-in-15
unfolding product_1
returns-in-15 c b e = product_1_at b 15 (e ∙ c.in-15.is) (lit< tt)

pub returns-in-16 : goal.returns-in-16
unfolding product_1
returns-in-16 c b e = product_1_at b 16 (e ∙ c.in-16.is) (lit< tt)

pub returns-in-17 : goal.returns-in-17
unfolding product_1
returns-in-17 c b e = product_1_at b 17 (e ∙ c.in-17.is) (lit< tt)

pub returns-in-18 : goal.returns-in-18
unfolding product_1
returns-in-18 c b e = product_1_at b 18 (e ∙ c.in-18.is) (lit< tt)

pub returns-in-19 : goal.returns-in-19
unfolding product_1
returns-in-19 c b e = product_1_at b 19 (e ∙ c.in-19.is) (lit< tt)

pub returns-in-20 : goal.returns-in-20
unfolding product_1
returns-in-20 c b e = product_1_at b 20 (e ∙ c.in-20.is) (lit< tt)

pub returns-in-21 : goal.returns-in-21
unfolding product_1
returns-in-21 c b e = product_1_at b 21 (e ∙ c.in-21.is) (lit< tt)

pub returns-in-22 : goal.returns-in-22
unfolding product_1
returns-in-22 c b e = product_1_at b 22 (e ∙ c.in-22.is) (lit< tt)

pub returns-in-23 : goal.returns-in-23
unfolding product_1
returns-in-23 c b e = product_1_at b 23 (e ∙ c.in-23.is) (lit< tt)

pub returns-in-24 : goal.returns-in-24
unfolding product_1
returns-in-24 c b e = product_1_at b 24 (e ∙ c.in-24.is) (lit< tt)

pub returns-in-25 : goal.returns-in-25
unfolding product_1
returns-in-25 c b e = product_1_at b 25 (e ∙ c.in-25.is) (lit< tt)

pub returns-in-26 : goal.returns-in-26
unfolding product_1
returns-in-26 c b e = product_1_at b 26 (e ∙ c.in-26.is) (lit< tt)

pub returns-in-27 : goal.returns-in-27
unfolding product_1
returns-in-27 c b e = product_1_at b 27 (e ∙ c.in-27.is) (lit< tt)

pub returns-in-28 : goal.returns-in-28
unfolding product_1
returns-in-28 c b e = product_1_at b 28 (e ∙ c.in-28.is) (lit< tt)

pub returns-in-29 : goal.returns-in-29
unfolding product_1
returns-in-29 c b e = product_1_at b 29 (e ∙ c.in-29.is) (lit< tt)

pub returns-in-30 : goal.returns-in-30
unfolding product_1
returns-in-30 c b e = product_1_at b 30 (e ∙ c.in-30.is) (lit< tt)

pub returns-in-31 : goal.returns-in-31
unfolding product_1
returns-in-31 c b e = product_1_at b 31 (e ∙ c.in-31.is) (lit< tt)

pub returns-in-32 : goal.returns-in-32
unfolding product_1
returns-in-32 c b e = product_1_at b 32 (e ∙ c.in-32.is) (lit< tt)

pub returns-in-33 : goal.returns-in-33
unfolding product_1
returns-in-33 c b e = product_1_at b 33 (e ∙ c.in-33.is) (lit< tt)

pub returns-in-34 : goal.returns-in-34
unfolding product_1
returns-in-34 c b e = product_1_at b 34 (e ∙ c.in-34.is) (lit< tt)

pub returns-in-35 : goal.returns-in-35
unfolding product_1
returns-in-35 c b e = product_1_at b 35 (e ∙ c.in-35.is) (lit< tt)

pub returns-in-36 : goal.returns-in-36
unfolding product_1
returns-in-36 c b e = product_1_at b 36 (e ∙ c.in-36.is) (lit< tt)

pub returns-in-37 : goal.returns-in-37
unfolding product_1
returns-in-37 c b e = product_1_at b 37 (e ∙ c.in-37.is) (lit< tt)

pub returns-in-38 : goal.returns-in-38
unfolding product_1
returns-in-38 c b e = product_1_at b 38 (e ∙ c.in-38.is) (lit< tt)

pub returns-in-39 : goal.returns-in-39
unfolding product_1
returns-in-39 c b e = product_1_at b 39 (e ∙ c.in-39.is) (lit< tt)

pub returns-in-40 : goal.returns-in-40
unfolding product_1
returns-in-40 c b e = product_1_at b 40 (e ∙ c.in-40.is) (lit< tt)

pub returns-in-41 : goal.returns-in-41
unfolding product_1
returns-in-41 c b e = product_1_at b 41 (e ∙ c.in-41.is) (lit< tt)

pub returns-in-42 : goal.returns-in-42
unfolding product_1
returns-in-42 c b e = product_1_at b 42 (e ∙ c.in-42.is) (lit< tt)

pub returns-in-43 : goal.returns-in-43
unfolding product_1
returns-in-43 c b e = product_1_at b 43 (e ∙ c.in-43.is) (lit< tt)

pub returns-in-44 : goal.returns-in-44
unfolding product_1
returns-in-44 c b e = product_1_at b 44 (e ∙ c.in-44.is) (lit< tt)

pub returns-in-45 : goal.returns-in-45
unfolding product_1
returns-in-45 c b e = product_1_at b 45 (e ∙ c.in-45.is) (lit< tt)

pub returns-in-46 : goal.returns-in-46
unfolding product_1
returns-in-46 c b e = product_1_at b 46 (e ∙ c.in-46.is) (lit< tt)

pub returns-in-47 : goal.returns-in-47
unfolding product_1
returns-in-47 c b e = product_1_at b 47 (e ∙ c.in-47.is) (lit< tt)

pub returns-in-48 : goal.returns-in-48
unfolding product_1
returns-in-48 c b e = product_1_at b 48 (e ∙ c.in-48.is) (lit< tt)

pub returns-in-49 : goal.returns-in-49
unfolding product_1
returns-in-49 c b e = product_1_at b 49 (e ∙ c.in-49.is) (lit< tt)

pub returns-in-50 : goal.returns-in-50
unfolding product_1
returns-in-50 c b e = product_1_at b 50 (e ∙ c.in-50.is) (lit< tt)

pub returns-in-51 : goal.returns-in-51
unfolding product_1
returns-in-51 c b e = product_1_at b 51 (e ∙ c.in-51.is) (lit< tt)

pub returns-in-52 : goal.returns-in-52
unfolding product_1
returns-in-52 c b e = product_1_at b 52 (e ∙ c.in-52.is) (lit< tt)

pub returns-in-53 : goal.returns-in-53
unfolding product_1
returns-in-53 c b e = product_1_at b 53 (e ∙ c.in-53.is) (lit< tt)

pub returns-in-54 : goal.returns-in-54
unfolding product_1
returns-in-54 c b e = product_1_at b 54 (e ∙ c.in-54.is) (lit< tt)

pub returns-in-55 : goal.returns-in-55
unfolding product_1
returns-in-55 c b e = product_1_at b 55 (e ∙ c.in-55.is) (lit< tt)

pub returns-in-56 : goal.returns-in-56
unfolding product_1
returns-in-56 c b e = product_1_at b 56 (e ∙ c.in-56.is) (lit< tt)

pub returns-in-57 : goal.returns-in-57
unfolding product_1
returns-in-57 c b e = product_1_at b 57 (e ∙ c.in-57.is) (lit< tt)

pub returns-in-58 : goal.returns-in-58
unfolding product_1
returns-in-58 c b e = product_1_at b 58 (e ∙ c.in-58.is) (lit< tt)

pub returns-in-59 : goal.returns-in-59
unfolding product_1
returns-in-59 c b e = product_1_at b 59 (e ∙ c.in-59.is) (lit< tt)

pub returns-in-60 : goal.returns-in-60
unfolding product_1
returns-in-60 c b e = product_1_at b 60 (e ∙ c.in-60.is) (lit< tt)

pub returns-in-61 : goal.returns-in-61
unfolding product_1
returns-in-61 c b e = product_1_at b 61 (e ∙ c.in-61.is) (lit< tt)

pub returns-in-62 : goal.returns-in-62
unfolding product_1
returns-in-62 c b e = product_1_at b 62 (e ∙ c.in-62.is) (lit< tt)

pub returns-in-63 : goal.returns-in-63
unfolding product_1
returns-in-63 c b e = product_1_at b 63 (e ∙ c.in-63.is) (lit< tt)

pub returns-in-64 : goal.returns-in-64
unfolding product_1
returns-in-64 c b e = product_1_at b 64 (e ∙ c.in-64.is) (lit< tt)

pub returns-in-65 : goal.returns-in-65
unfolding product_1
returns-in-65 c b e = product_1_at b 65 (e ∙ c.in-65.is) (lit< tt)

pub returns-in-66 : goal.returns-in-66
unfolding product_1
returns-in-66 c b e = product_1_at b 66 (e ∙ c.in-66.is) (lit< tt)

pub returns-in-67 : goal.returns-in-67
unfolding product_1
returns-in-67 c b e = product_1_at b 67 (e ∙ c.in-67.is) (lit< tt)

pub returns-in-68 : goal.returns-in-68
unfolding product_1
returns-in-68 c b e = product_1_at b 68 (e ∙ c.in-68.is) (lit< tt)

pub returns-in-69 : goal.returns-in-69
unfolding product_1
returns-in-69 c b e = product_1_at b 69 (e ∙ c.in-69.is) (lit< tt)

pub returns-in-70 : goal.returns-in-70
unfolding product_1
returns-in-70 c b e = product_1_at b 70 (e ∙ c.in-70.is) (lit< tt)

pub returns-in-71 : goal.returns-in-71
unfolding product_1
returns-in-71 c b e = product_1_at b 71 (e ∙ c.in-71.is) (lit< tt)

pub returns-in-72 : goal.returns-in-72
unfolding product_1
returns-in-72 c b e = product_1_at b 72 (e ∙ c.in-72.is) (lit< tt)

pub returns-in-73 : goal.returns-in-73
unfolding product_1
returns-in-73 c b e = product_1_at b 73 (e ∙ c.in-73.is) (lit< tt)

pub returns-in-74 : goal.returns-in-74
unfolding product_1
returns-in-74 c b e = product_1_at b 74 (e ∙ c.in-74.is) (lit< tt)

pub returns-in-75 : goal.returns-in-75
unfolding product_1
returns-in-75 c b e = product_1_at b 75 (e ∙ c.in-75.is) (lit< tt)

pub returns-in-76 : goal.returns-in-76
unfolding product_1
returns-in-76 c b e = product_1_at b 76 (e ∙ c.in-76.is) (lit< tt)

pub returns-in-77 : goal.returns-in-77
unfolding product_1
returns-in-77 c b e = product_1_at b 77 (e ∙ c.in-77.is) (lit< tt)

pub returns-in-78 : goal.returns-in-78
unfolding product_1
returns-in-78 c b e = product_1_at b 78 (e ∙ c.in-78.is) (lit< tt)

pub returns-in-79 : goal.returns-in-79
unfolding product_1
returns-in-79 c b e = product_1_at b 79 (e ∙ c.in-79.is) (lit< tt)

pub returns-in-80 : goal.returns-in-80
unfolding product_1
returns-in-80 c b e = product_1_at b 80 (e ∙ c.in-80.is) (lit< tt)

pub returns-in-81 : goal.returns-in-81
unfolding product_1
returns-in-81 c b e = product_1_at b 81 (e ∙ c.in-81.is) (lit< tt)

pub returns-in-82 : goal.returns-in-82
unfolding product_1
returns-in-82 c b e = product_1_at b 82 (e ∙ c.in-82.is) (lit< tt)

pub returns-in-83 : goal.returns-in-83
unfolding product_1
returns-in-83 c b e = product_1_at b 83 (e ∙ c.in-83.is) (lit< tt)

pub returns-in-84 : goal.returns-in-84
unfolding product_1
returns-in-84 c b e = product_1_at b 84 (e ∙ c.in-84.is) (lit< tt)

pub returns-in-85 : goal.returns-in-85
unfolding product_1
returns-in-85 c b e = product_1_at b 85 (e ∙ c.in-85.is) (lit< tt)

pub returns-in-86 : goal.returns-in-86
unfolding product_1
returns-in-86 c b e = product_1_at b 86 (e ∙ c.in-86.is) (lit< tt)

pub returns-in-87 : goal.returns-in-87
unfolding product_1
returns-in-87 c b e = product_1_at b 87 (e ∙ c.in-87.is) (lit< tt)

pub returns-in-88 : goal.returns-in-88
unfolding product_1
returns-in-88 c b e = product_1_at b 88 (e ∙ c.in-88.is) (lit< tt)

pub returns-in-89 : goal.returns-in-89
unfolding product_1
returns-in-89 c b e = product_1_at b 89 (e ∙ c.in-89.is) (lit< tt)

pub returns-in-90 : goal.returns-in-90
unfolding product_1
returns-in-90 c b e = product_1_at b 90 (e ∙ c.in-90.is) (lit< tt)

pub returns-in-91 : goal.returns-in-91
unfolding product_1
returns-in-91 c b e = product_1_at b 91 (e ∙ c.in-91.is) (lit< tt)

pub returns-in-92 : goal.returns-in-92
unfolding product_1
returns-in-92 c b e = product_1_at b 92 (e ∙ c.in-92.is) (lit< tt)

pub returns-in-93 : goal.returns-in-93
unfolding product_1
returns-in-93 c b e = product_1_at b 93 (e ∙ c.in-93.is) (lit< tt)

pub returns-in-94 : goal.returns-in-94
unfolding product_1
returns-in-94 c b e = product_1_at b 94 (e ∙ c.in-94.is) (lit< tt)

pub returns-in-95 : goal.returns-in-95
unfolding product_1
returns-in-95 c b e = product_1_at b 95 (e ∙ c.in-95.is) (lit< tt)

pub returns-in-96 : goal.returns-in-96
unfolding product_1
returns-in-96 c b e = product_1_at b 96 (e ∙ c.in-96.is) (lit< tt)

pub returns-in-97 : goal.returns-in-97
unfolding product_1
returns-in-97 c b e = product_1_at b 97 (e ∙ c.in-97.is) (lit< tt)

pub returns-in-98 : goal.returns-in-98
unfolding product_1
returns-in-98 c b e = product_1_at b 98 (e ∙ c.in-98.is) (lit< tt)

pub returns-in-99 : goal.returns-in-99
unfolding product_1
returns-in-99 c b e = product_1_at b 99 (e ∙ c.in-99.is) (lit< tt)

pub returns-in-100 : goal.returns-in-100
unfolding product_1
returns-in-100 c b e = product_1_at b 100 (e ∙ c.in-100.is) (lit< tt)

pub returns-in-101 : goal.returns-in-101
unfolding product_1
returns-in-101 c b e = product_1_at b 101 (e ∙ c.in-101.is) (lit< tt)

pub returns-in-102 : goal.returns-in-102
unfolding product_1
returns-in-102 c b e = product_1_at b 102 (e ∙ c.in-102.is) (lit< tt)

pub returns-in-103 : goal.returns-in-103
unfolding product_1
returns-in-103 c b e = product_1_at b 103 (e ∙ c.in-103.is) (lit< tt)

pub returns-in-104 : goal.returns-in-104
unfolding product_1
returns-in-104 c b e = product_1_at b 104 (e ∙ c.in-104.is) (lit< tt)

pub returns-in-105 : goal.returns-in-105
unfolding product_1
returns-in-105 c b e = product_1_at b 105 (e ∙ c.in-105.is) (lit< tt)

pub returns-in-106 : goal.returns-in-106
unfolding product_1
returns-in-106 c b e = product_1_at b 106 (e ∙ c.in-106.is) (lit< tt)

pub returns-in-107 : goal.returns-in-107
unfolding product_1
returns-in-107 c b e = product_1_at b 107 (e ∙ c.in-107.is) (lit< tt)

pub returns-in-108 : goal.returns-in-108
unfolding product_1
returns-in-108 c b e = product_1_at b 108 (e ∙ c.in-108.is) (lit< tt)

pub returns-in-109 : goal.returns-in-109
unfolding product_1
returns-in-109 c b e = product_1_at b 109 (e ∙ c.in-109.is) (lit< tt)

pub returns-in-110 : goal.returns-in-110
unfolding product_1
returns-in-110 c b e = product_1_at b 110 (e ∙ c.in-110.is) (lit< tt)

pub returns-in-111 : goal.returns-in-111
unfolding product_1
returns-in-111 c b e = product_1_at b 111 (e ∙ c.in-111.is) (lit< tt)

pub returns-in-112 : goal.returns-in-112
unfolding product_1
returns-in-112 c b e = product_1_at b 112 (e ∙ c.in-112.is) (lit< tt)

pub returns-in-113 : goal.returns-in-113
unfolding product_1
returns-in-113 c b e = product_1_at b 113 (e ∙ c.in-113.is) (lit< tt)

pub returns-in-114 : goal.returns-in-114
unfolding product_1
returns-in-114 c b e = product_1_at b 114 (e ∙ c.in-114.is) (lit< tt)

pub returns-in-115 : goal.returns-in-115
unfolding product_1
returns-in-115 c b e = product_1_at b 115 (e ∙ c.in-115.is) (lit< tt)

pub returns-in-116 : goal.returns-in-116
unfolding product_1
returns-in-116 c b e = product_1_at b 116 (e ∙ c.in-116.is) (lit< tt)

pub returns-in-117 : goal.returns-in-117
unfolding product_1
returns-in-117 c b e = product_1_at b 117 (e ∙ c.in-117.is) (lit< tt)

pub returns-in-118 : goal.returns-in-118
unfolding product_1
returns-in-118 c b e = product_1_at b 118 (e ∙ c.in-118.is) (lit< tt)

pub returns-in-119 : goal.returns-in-119
unfolding product_1
returns-in-119 c b e = product_1_at b 119 (e ∙ c.in-119.is) (lit< tt)

pub returns-in-120 : goal.returns-in-120
unfolding product_1
returns-in-120 c b e = product_1_at b 120 (e ∙ c.in-120.is) (lit< tt)

pub returns-in-121 : goal.returns-in-121
unfolding product_1
returns-in-121 c b e = product_1_at b 121 (e ∙ c.in-121.is) (lit< tt)

pub returns-in-122 : goal.returns-in-122
unfolding product_1
returns-in-122 c b e = product_1_at b 122 (e ∙ c.in-122.is) (lit< tt)

pub returns-in-123 : goal.returns-in-123
unfolding product_1
returns-in-123 c b e = product_1_at b 123 (e ∙ c.in-123.is) (lit< tt)

pub returns-in-124 : goal.returns-in-124
unfolding product_1
returns-in-124 c b e = product_1_at b 124 (e ∙ c.in-124.is) (lit< tt)

pub returns-in-125 : goal.returns-in-125
unfolding product_1
returns-in-125 c b e = product_1_at b 125 (e ∙ c.in-125.is) (lit< tt)

pub returns-in-126 : goal.returns-in-126
unfolding product_1
returns-in-126 c b e = product_1_at b 126 (e ∙ c.in-126.is) (lit< tt)

pub returns-in-127 : goal.returns-in-127
unfolding product_1
returns-in-127 c b e = product_1_at b 127 (e ∙ c.in-127.is) (lit< tt)

pub returns-in-128 : goal.returns-in-128
unfolding product_1
returns-in-128 c b e = product_1_at b 128 (e ∙ c.in-128.is) (lit< tt)

pub returns-in-129 : goal.returns-in-129
unfolding product_1
returns-in-129 c b e = product_1_at b 129 (e ∙ c.in-129.is) (lit< tt)

pub returns-in-130 : goal.returns-in-130
unfolding product_1
returns-in-130 c b e = product_1_at b 130 (e ∙ c.in-130.is) (lit< tt)

pub returns-in-131 : goal.returns-in-131
unfolding product_1
returns-in-131 c b e = product_1_at b 131 (e ∙ c.in-131.is) (lit< tt)

pub returns-in-132 : goal.returns-in-132
unfolding product_1
returns-in-132 c b e = product_1_at b 132 (e ∙ c.in-132.is) (lit< tt)

pub returns-in-133 : goal.returns-in-133
unfolding product_1
returns-in-133 c b e = product_1_at b 133 (e ∙ c.in-133.is) (lit< tt)

pub returns-in-134 : goal.returns-in-134
unfolding product_1
returns-in-134 c b e = product_1_at b 134 (e ∙ c.in-134.is) (lit< tt)

pub returns-in-135 : goal.returns-in-135
unfolding product_1
returns-in-135 c b e = product_1_at b 135 (e ∙ c.in-135.is) (lit< tt)

pub returns-in-136 : goal.returns-in-136
unfolding product_1
returns-in-136 c b e = product_1_at b 136 (e ∙ c.in-136.is) (lit< tt)

pub returns-in-137 : goal.returns-in-137
unfolding product_1
returns-in-137 c b e = product_1_at b 137 (e ∙ c.in-137.is) (lit< tt)

pub returns-in-138 : goal.returns-in-138
unfolding product_1
returns-in-138 c b e = product_1_at b 138 (e ∙ c.in-138.is) (lit< tt)

pub returns-in-139 : goal.returns-in-139
unfolding product_1
returns-in-139 c b e = product_1_at b 139 (e ∙ c.in-139.is) (lit< tt)

pub returns-in-140 : goal.returns-in-140
unfolding product_1
returns-in-140 c b e = product_1_at b 140 (e ∙ c.in-140.is) (lit< tt)

pub returns-in-141 : goal.returns-in-141
unfolding product_1
returns-in-141 c b e = product_1_at b 141 (e ∙ c.in-141.is) (lit< tt)

pub returns-in-142 : goal.returns-in-142
unfolding product_1
returns-in-142 c b e = product_1_at b 142 (e ∙ c.in-142.is) (lit< tt)

pub returns-in-143 : goal.returns-in-143
unfolding product_1
returns-in-143 c b e = product_1_at b 143 (e ∙ c.in-143.is) (lit< tt)

pub returns-in-144 : goal.returns-in-144
unfolding product_1
returns-in-144 c b e = product_1_at b 144 (e ∙ c.in-144.is) (lit< tt)

pub returns-in-145 : goal.returns-in-145
unfolding product_1
returns-in-145 c b e = product_1_at b 145 (e ∙ c.in-145.is) (lit< tt)

pub returns-in-146 : goal.returns-in-146
unfolding product_1
returns-in-146 c b e = product_1_at b 146 (e ∙ c.in-146.is) (lit< tt)

pub returns-in-147 : goal.returns-in-147
unfolding product_1
returns-in-147 c b e = product_1_at b 147 (e ∙ c.in-147.is) (lit< tt)

pub returns-in-148 : goal.returns-in-148
unfolding product_1
returns-in-148 c b e = product_1_at b 148 (e ∙ c.in-148.is) (lit< tt)

pub returns-in-149 : goal.returns-in-149
unfolding product_1
returns-in-149 c b e = product_1_at b 149 (e ∙ c.in-149.is) (lit< tt)

pub returns-in-150 : goal.returns-in-150
unfolding product_1
returns-in-150 c b e = product_1_at b 150 (e ∙ c.in-150.is) (lit< tt)

pub returns-in-151 : goal.returns-in-151
unfolding product_1
returns-in-151 c b e = product_1_at b 151 (e ∙ c.in-151.is) (lit< tt)

pub returns-in-152 : goal.returns-in-152
unfolding product_1
returns-in-152 c b e = product_1_at b 152 (e ∙ c.in-152.is) (lit< tt)

pub returns-in-153 : goal.returns-in-153
unfolding product_1
returns-in-153 c b e = product_1_at b 153 (e ∙ c.in-153.is) (lit< tt)

pub returns-in-154 : goal.returns-in-154
unfolding product_1
returns-in-154 c b e = product_1_at b 154 (e ∙ c.in-154.is) (lit< tt)

pub returns-in-155 : goal.returns-in-155
unfolding product_1
returns-in-155 c b e = product_1_at b 155 (e ∙ c.in-155.is) (lit< tt)

pub returns-in-156 : goal.returns-in-156
unfolding product_1
returns-in-156 c b e = product_1_at b 156 (e ∙ c.in-156.is) (lit< tt)

pub returns-in-157 : goal.returns-in-157
unfolding product_1
returns-in-157 c b e = product_1_at b 157 (e ∙ c.in-157.is) (lit< tt)

pub returns-in-158 : goal.returns-in-158
unfolding product_1
returns-in-158 c b e = product_1_at b 158 (e ∙ c.in-158.is) (lit< tt)

pub returns-in-159 : goal.returns-in-159
unfolding product_1
returns-in-159 c b e = product_1_at b 159 (e ∙ c.in-159.is) (lit< tt)

pub returns-in-160 : goal.returns-in-160
unfolding product_1
returns-in-160 c b e = product_1_at b 160 (e ∙ c.in-160.is) (lit< tt)

pub returns-in-161 : goal.returns-in-161
unfolding product_1
returns-in-161 c b e = product_1_at b 161 (e ∙ c.in-161.is) (lit< tt)

pub returns-in-162 : goal.returns-in-162
unfolding product_1
returns-in-162 c b e = product_1_at b 162 (e ∙ c.in-162.is) (lit< tt)

pub returns-in-163 : goal.returns-in-163
unfolding product_1
returns-in-163 c b e = product_1_at b 163 (e ∙ c.in-163.is) (lit< tt)

pub returns-in-164 : goal.returns-in-164
unfolding product_1
returns-in-164 c b e = product_1_at b 164 (e ∙ c.in-164.is) (lit< tt)

pub returns-in-165 : goal.returns-in-165
unfolding product_1
returns-in-165 c b e = product_1_at b 165 (e ∙ c.in-165.is) (lit< tt)

pub returns-in-166 : goal.returns-in-166
unfolding product_1
returns-in-166 c b e = product_1_at b 166 (e ∙ c.in-166.is) (lit< tt)

pub returns-in-167 : goal.returns-in-167
unfolding product_1
returns-in-167 c b e = product_1_at b 167 (e ∙ c.in-167.is) (lit< tt)

pub returns-in-168 : goal.returns-in-168
unfolding product_1
returns-in-168 c b e = product_1_at b 168 (e ∙ c.in-168.is) (lit< tt)

pub returns-in-169 : goal.returns-in-169
unfolding product_1
returns-in-169 c b e = product_1_at b 169 (e ∙ c.in-169.is) (lit< tt)

pub returns-in-170 : goal.returns-in-170
unfolding product_1
returns-in-170 c b e = product_1_at b 170 (e ∙ c.in-170.is) (lit< tt)

pub returns-in-171 : goal.returns-in-171
unfolding product_1
returns-in-171 c b e = product_1_at b 171 (e ∙ c.in-171.is) (lit< tt)

pub returns-in-172 : goal.returns-in-172
unfolding product_1
returns-in-172 c b e = product_1_at b 172 (e ∙ c.in-172.is) (lit< tt)

pub returns-in-173 : goal.returns-in-173
unfolding product_1
returns-in-173 c b e = product_1_at b 173 (e ∙ c.in-173.is) (lit< tt)

pub returns-in-174 : goal.returns-in-174
unfolding product_1
returns-in-174 c b e = product_1_at b 174 (e ∙ c.in-174.is) (lit< tt)

pub returns-in-175 : goal.returns-in-175
unfolding product_1
returns-in-175 c b e = product_1_at b 175 (e ∙ c.in-175.is) (lit< tt)

pub returns-in-176 : goal.returns-in-176
unfolding product_1
returns-in-176 c b e = product_1_at b 176 (e ∙ c.in-176.is) (lit< tt)

pub returns-in-177 : goal.returns-in-177
unfolding product_1
returns-in-177 c b e = product_1_at b 177 (e ∙ c.in-177.is) (lit< tt)

pub returns-in-178 : goal.returns-in-178
unfolding product_1
returns-in-178 c b e = product_1_at b 178 (e ∙ c.in-178.is) (lit< tt)

pub returns-in-179 : goal.returns-in-179
unfolding product_1
returns-in-179 c b e = product_1_at b 179 (e ∙ c.in-179.is) (lit< tt)

pub returns-in-180 : goal.returns-in-180
unfolding product_1
returns-in-180 c b e = product_1_at b 180 (e ∙ c.in-180.is) (lit< tt)

pub returns-in-181 : goal.returns-in-181
unfolding product_1
returns-in-181 c b e = product_1_at b 181 (e ∙ c.in-181.is) (lit< tt)

pub returns-in-182 : goal.returns-in-182
unfolding product_1
returns-in-182 c b e = product_1_at b 182 (e ∙ c.in-182.is) (lit< tt)

pub returns-in-183 : goal.returns-in-183
unfolding product_1
returns-in-183 c b e = product_1_at b 183 (e ∙ c.in-183.is) (lit< tt)

pub returns-in-184 : goal.returns-in-184
unfolding product_1
returns-in-184 c b e = product_1_at b 184 (e ∙ c.in-184.is) (lit< tt)

pub returns-in-185 : goal.returns-in-185
unfolding product_1
returns-in-185 c b e = product_1_at b 185 (e ∙ c.in-185.is) (lit< tt)

pub returns-in-186 : goal.returns-in-186
unfolding product_1
returns-in-186 c b e = product_1_at b 186 (e ∙ c.in-186.is) (lit< tt)

pub returns-in-187 : goal.returns-in-187
unfolding product_1
returns-in-187 c b e = product_1_at b 187 (e ∙ c.in-187.is) (lit< tt)

pub returns-in-188 : goal.returns-in-188
unfolding product_1
returns-in-188 c b e = product_1_at b 188 (e ∙ c.in-188.is) (lit< tt)

pub returns-in-189 : goal.returns-in-189
unfolding product_1
returns-in-189 c b e = product_1_at b 189 (e ∙ c.in-189.is) (lit< tt)

pub returns-in-190 : goal.returns-in-190
unfolding product_1
returns-in-190 c b e = product_1_at b 190 (e ∙ c.in-190.is) (lit< tt)

pub returns-in-191 : goal.returns-in-191
unfolding product_1
returns-in-191 c b e = product_1_at b 191 (e ∙ c.in-191.is) (lit< tt)

pub returns-in-192 : goal.returns-in-192
unfolding product_1
returns-in-192 c b e = product_1_at b 192 (e ∙ c.in-192.is) (lit< tt)

pub returns-in-193 : goal.returns-in-193
unfolding product_1
returns-in-193 c b e = product_1_at b 193 (e ∙ c.in-193.is) (lit< tt)

pub returns-in-194 : goal.returns-in-194
unfolding product_1
returns-in-194 c b e = product_1_at b 194 (e ∙ c.in-194.is) (lit< tt)

pub returns-in-195 : goal.returns-in-195
unfolding product_1
returns-in-195 c b e = product_1_at b 195 (e ∙ c.in-195.is) (lit< tt)

pub returns-in-196 : goal.returns-in-196
unfolding product_1
returns-in-196 c b e = product_1_at b 196 (e ∙ c.in-196.is) (lit< tt)

pub returns-in-197 : goal.returns-in-197
unfolding product_1
returns-in-197 c b e = product_1_at b 197 (e ∙ c.in-197.is) (lit< tt)

pub returns-in-198 : goal.returns-in-198
unfolding product_1
returns-in-198 c b e = product_1_at b 198 (e ∙ c.in-198.is) (lit< tt)

pub returns-in-199 : goal.returns-in-199
unfolding product_1
returns-in-199 c b e = product_1_at b 199 (e ∙ c.in-199.is) (lit< tt)

pub returns-in-200 : goal.returns-in-200
unfolding product_1
returns-in-200 c b e = product_1_at b 200 (e ∙ c.in-200.is) (lit< tt)

pub returns-in-201 : goal.returns-in-201
unfolding product_1
returns-in-201 c b e = product_1_at b 201 (e ∙ c.in-201.is) (lit< tt)

pub returns-in-202 : goal.returns-in-202
unfolding product_1
returns-in-202 c b e = product_1_at b 202 (e ∙ c.in-202.is) (lit< tt)

pub returns-in-203 : goal.returns-in-203
unfolding product_1
returns-in-203 c b e = product_1_at b 203 (e ∙ c.in-203.is) (lit< tt)

pub returns-in-204 : goal.returns-in-204
unfolding product_1
returns-in-204 c b e = product_1_at b 204 (e ∙ c.in-204.is) (lit< tt)

pub returns-in-205 : goal.returns-in-205
unfolding product_1
returns-in-205 c b e = product_1_at b 205 (e ∙ c.in-205.is) (lit< tt)

pub returns-in-206 : goal.returns-in-206
unfolding product_1
returns-in-206 c b e = product_1_at b 206 (e ∙ c.in-206.is) (lit< tt)

pub returns-in-207 : goal.returns-in-207
unfolding product_1
returns-in-207 c b e = product_1_at b 207 (e ∙ c.in-207.is) (lit< tt)

pub returns-in-208 : goal.returns-in-208
unfolding product_1
returns-in-208 c b e = product_1_at b 208 (e ∙ c.in-208.is) (lit< tt)

pub returns-in-209 : goal.returns-in-209
unfolding product_1
returns-in-209 c b e = product_1_at b 209 (e ∙ c.in-209.is) (lit< tt)

pub returns-in-210 : goal.returns-in-210
unfolding product_1
returns-in-210 c b e = product_1_at b 210 (e ∙ c.in-210.is) (lit< tt)

pub returns-in-211 : goal.returns-in-211
unfolding product_1
returns-in-211 c b e = product_1_at b 211 (e ∙ c.in-211.is) (lit< tt)

pub returns-in-212 : goal.returns-in-212
unfolding product_1
returns-in-212 c b e = product_1_at b 212 (e ∙ c.in-212.is) (lit< tt)

pub returns-in-213 : goal.returns-in-213
unfolding product_1
returns-in-213 c b e = product_1_at b 213 (e ∙ c.in-213.is) (lit< tt)

pub returns-in-214 : goal.returns-in-214
unfolding product_1
returns-in-214 c b e = product_1_at b 214 (e ∙ c.in-214.is) (lit< tt)

pub returns-in-215 : goal.returns-in-215
unfolding product_1
returns-in-215 c b e = product_1_at b 215 (e ∙ c.in-215.is) (lit< tt)

pub returns-in-216 : goal.returns-in-216
unfolding product_1
returns-in-216 c b e = product_1_at b 216 (e ∙ c.in-216.is) (lit< tt)

pub returns-in-217 : goal.returns-in-217
unfolding product_1
returns-in-217 c b e = product_1_at b 217 (e ∙ c.in-217.is) (lit< tt)

pub returns-in-218 : goal.returns-in-218
unfolding product_1
returns-in-218 c b e = product_1_at b 218 (e ∙ c.in-218.is) (lit< tt)

pub returns-in-219 : goal.returns-in-219
unfolding product_1
returns-in-219 c b e = product_1_at b 219 (e ∙ c.in-219.is) (lit< tt)

pub returns-in-220 : goal.returns-in-220
unfolding product_1
returns-in-220 c b e = product_1_at b 220 (e ∙ c.in-220.is) (lit< tt)

pub returns-in-221 : goal.returns-in-221
unfolding product_1
returns-in-221 c b e = product_1_at b 221 (e ∙ c.in-221.is) (lit< tt)

pub returns-in-222 : goal.returns-in-222
unfolding product_1
returns-in-222 c b e = product_1_at b 222 (e ∙ c.in-222.is) (lit< tt)

pub returns-in-223 : goal.returns-in-223
unfolding product_1
returns-in-223 c b e = product_1_at b 223 (e ∙ c.in-223.is) (lit< tt)

pub returns-in-224 : goal.returns-in-224
unfolding product_1
returns-in-224 c b e = product_1_at b 224 (e ∙ c.in-224.is) (lit< tt)

pub returns-in-225 : goal.returns-in-225
unfolding product_1
returns-in-225 c b e = product_1_at b 225 (e ∙ c.in-225.is) (lit< tt)

pub returns-in-226 : goal.returns-in-226
unfolding product_1
returns-in-226 c b e = product_1_at b 226 (e ∙ c.in-226.is) (lit< tt)

pub returns-in-227 : goal.returns-in-227
unfolding product_1
returns-in-227 c b e = product_1_at b 227 (e ∙ c.in-227.is) (lit< tt)

pub returns-in-228 : goal.returns-in-228
unfolding product_1
returns-in-228 c b e = product_1_at b 228 (e ∙ c.in-228.is) (lit< tt)

pub returns-in-229 : goal.returns-in-229
unfolding product_1
returns-in-229 c b e = product_1_at b 229 (e ∙ c.in-229.is) (lit< tt)

pub returns-in-230 : goal.returns-in-230
unfolding product_1
returns-in-230 c b e = product_1_at b 230 (e ∙ c.in-230.is) (lit< tt)

pub returns-in-231 : goal.returns-in-231
unfolding product_1
returns-in-231 c b e = product_1_at b 231 (e ∙ c.in-231.is) (lit< tt)

pub returns-in-232 : goal.returns-in-232
unfolding product_1
returns-in-232 c b e = product_1_at b 232 (e ∙ c.in-232.is) (lit< tt)

pub returns-in-233 : goal.returns-in-233
unfolding product_1
returns-in-233 c b e = product_1_at b 233 (e ∙ c.in-233.is) (lit< tt)

pub returns-in-234 : goal.returns-in-234
unfolding product_1
returns-in-234 c b e = product_1_at b 234 (e ∙ c.in-234.is) (lit< tt)

pub returns-in-235 : goal.returns-in-235
unfolding product_1
returns-in-235 c b e = product_1_at b 235 (e ∙ c.in-235.is) (lit< tt)

pub returns-in-236 : goal.returns-in-236
unfolding product_1
returns-in-236 c b e = product_1_at b 236 (e ∙ c.in-236.is) (lit< tt)

pub returns-in-237 : goal.returns-in-237
unfolding product_1
returns-in-237 c b e = product_1_at b 237 (e ∙ c.in-237.is) (lit< tt)

pub returns-in-238 : goal.returns-in-238
unfolding product_1
returns-in-238 c b e = product_1_at b 238 (e ∙ c.in-238.is) (lit< tt)

pub returns-in-239 : goal.returns-in-239
unfolding product_1
returns-in-239 c b e = product_1_at b 239 (e ∙ c.in-239.is) (lit< tt)

pub returns-in-240 : goal.returns-in-240
unfolding product_1
returns-in-240 c b e = product_1_at b 240 (e ∙ c.in-240.is) (lit< tt)

pub returns-in-241 : goal.returns-in-241
unfolding product_1
returns-in-241 c b e = product_1_at b 241 (e ∙ c.in-241.is) (lit< tt)

pub returns-in-242 : goal.returns-in-242
unfolding product_1
returns-in-242 c b e = product_1_at b 242 (e ∙ c.in-242.is) (lit< tt)

pub returns-in-243 : goal.returns-in-243
unfolding product_1
returns-in-243 c b e = product_1_at b 243 (e ∙ c.in-243.is) (lit< tt)

pub returns-in-244 : goal.returns-in-244
unfolding product_1
returns-in-244 c b e = product_1_at b 244 (e ∙ c.in-244.is) (lit< tt)

pub returns-in-245 : goal.returns-in-245
unfolding product_1
returns-in-245 c b e = product_1_at b 245 (e ∙ c.in-245.is) (lit< tt)

pub returns-in-246 : goal.returns-in-246
unfolding product_1
returns-in-246 c b e = product_1_at b 246 (e ∙ c.in-246.is) (lit< tt)

pub returns-in-247 : goal.returns-in-247
unfolding product_1
returns-in-247 c b e = product_1_at b 247 (e ∙ c.in-247.is) (lit< tt)

pub returns-in-248 : goal.returns-in-248
unfolding product_1
returns-in-248 c b e = product_1_at b 248 (e ∙ c.in-248.is) (lit< tt)

pub returns-in-249 : goal.returns-in-249
unfolding product_1
returns-in-249 c b e = product_1_at b 249 (e ∙ c.in-249.is) (lit< tt)

pub returns-in-250 : goal.returns-in-250
unfolding product_1
returns-in-250 c b e = product_1_at b 250 (e ∙ c.in-250.is) (lit< tt)

pub returns-in-251 : goal.returns-in-251
unfolding product_1
returns-in-251 c b e = product_1_at b 251 (e ∙ c.in-251.is) (lit< tt)

pub returns-in-252 : goal.returns-in-252
unfolding product_1
returns-in-252 c b e = product_1_at b 252 (e ∙ c.in-252.is) (lit< tt)

pub returns-in-253 : goal.returns-in-253
unfolding product_1
returns-in-253 c b e = product_1_at b 253 (e ∙ c.in-253.is) (lit< tt)

pub returns-in-254 : goal.returns-in-254
unfolding product_1
returns-in-254 c b e = product_1_at b 254 (e ∙ c.in-254.is) (lit< tt)

pub returns-in-255 : goal.returns-in-255
unfolding product_1
returns-in-255 c b e = product_1_at b 255 (e ∙ c.in-255.is) (lit< tt)
