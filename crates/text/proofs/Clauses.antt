-- The clauses of a contract by their names, from the pairs that a lemma gives: a lemma about numbers and texts states them
-- as `A × (B × C)`.

pub appended_pair_upper_bound : {A B : Type 0} → A × B → record { appended_pair : A; upper_bound : B }
appended_pair_upper_bound t = record { appended_pair = t.0; upper_bound = t.1 }

pub made_after_table_after : {A B : Type 0} → A × B → record { made_after : A; table_after : B }
made_after_table_after t = record { made_after = t.0; table_after = t.1 }

pub out_after_replies_after : {A B : Type 0} → A × B → record { out_after : A; replies_after : B }
out_after_replies_after t = record { out_after = t.0; replies_after = t.1 }

pub value_block_after : {A B : Type 0} → A × B → record { value : A; block_after : B }
value_block_after t = record { value = t.0; block_after = t.1 }

pub value_bytes_after : {A B : Type 0} → A × B → record { value : A; bytes_after : B }
value_bytes_after t = record { value = t.0; bytes_after = t.1 }

pub value_bytes_after_places_after : {A B C : Type 0} → A × (B × C) → record { value : A; bytes_after : B; places_after : C }
value_bytes_after_places_after t = record { value = t.0; bytes_after = t.1.0; places_after = t.1.1 }

pub value_bytes_after_slots_after : {A B C : Type 0} → A × (B × C) → record { value : A; bytes_after : B; slots_after : C }
value_bytes_after_slots_after t = record { value = t.0; bytes_after = t.1.0; slots_after = t.1.1 }

pub value_kept_after : {A B : Type 0} → A × B → record { value : A; kept_after : B }
value_kept_after t = record { value = t.0; kept_after = t.1 }

pub value_kept_after_table_after_out_after : {A B C D : Type 0} → A × (B × (C × D)) → record { value : A; kept_after : B; table_after : C; out_after : D }
value_kept_after_table_after_out_after t = record { value = t.0; kept_after = t.1.0; table_after = t.1.1.0; out_after = t.1.1.1 }

pub value_lengths_after : {A B : Type 0} → A × B → record { value : A; lengths_after : B }
value_lengths_after t = record { value = t.0; lengths_after = t.1 }

pub value_out_after : {A B : Type 0} → A × B → record { value : A; out_after : B }
value_out_after t = record { value = t.0; out_after = t.1 }

pub value_out_after_slots_after : {A B C : Type 0} → A × (B × C) → record { value : A; out_after : B; slots_after : C }
value_out_after_slots_after t = record { value = t.0; out_after = t.1.0; slots_after = t.1.1 }

pub value_store_after_slots_after_table_after : {A B C D : Type 0} → A × (B × (C × D)) → record { value : A; store_after : B; slots_after : C; table_after : D }
value_store_after_slots_after_table_after t = record { value = t.0; store_after = t.1.0; slots_after = t.1.1.0; table_after = t.1.1.1 }

pub value_time_after : {A B : Type 0} → A × B → record { value : A; time_after : B }
value_time_after t = record { value = t.0; time_after = t.1 }
