-- A law that says two facts at once, as a contract of two clauses asks for them. Assumes nothing.

-- what a call answers, and what it leaves in the bytes that were lent
pub value_and_out : {A B : Type 0} → A × B → record { value : A; out_after : B }
value_and_out p = record { value = p.0; out_after = p.1 }

-- and what it leaves in a lent item table and in a lent sorted list
pub value_and_tables : {A B C : Type 0} → A × (B × C) → record { value : A; table_after : B; list_after : C }
value_and_tables p = record { value = p.0; table_after = p.1.0; list_after = p.1.1 }

-- and what it leaves in a lent row of pitches and in the row of numbers beside it
pub value_and_rows : {A B C : Type 0} → A × (B × C) → record { value : A; hz_after : B; numbers_after : C }
value_and_rows p = record { value = p.0; hz_after = p.1.0; numbers_after = p.1.1 }

-- and back: the two or three facts of a call's clauses as one
pub as_pair : {A B : Type 0} → record { value : A; out_after : B } → A × B
as_pair r = (r.value, r.out_after)

pub as_tables : {A B C : Type 0} → record { value : A; table_after : B; list_after : C } → A × (B × C)
as_tables r = (r.value, (r.table_after, r.list_after))

pub as_rows : {A B C : Type 0} → record { value : A; hz_after : B; numbers_after : C } → A × (B × C)
as_rows r = (r.value, (r.hz_after, r.numbers_after))
