-- The tables of pointers that are at ports may be passed again.
use Rattle.std.proofs.Common.{◌≡◌, ℕ, ap, subst, sym}
use Rattle.pointer_state.specs.Places.{Places, AreAtPorts}
use Rattle.pointer_state.specs.declared.caller_tables.PointerTables.{PointerTables}
use Rattle.pointer_state.specs.CallerTables.{AreInRange, places_from, tables_of}

-- the tables that the pointers were written to
pub AreInRange-written : (n : ℕ) (places : Places) (tables : PointerTables)
    → AreAtPorts places → places.ports ≡ n → tables ≡ tables_of places → AreInRange n tables
AreInRange-written n places tables at_ports ports value =
    let here : AreInRange places.ports (tables_of places) = record { some = at_ports.some; size = at_ports.size; placed = at_ports.pointing } in
    subst (λ m. AreInRange m tables) ports (subst (λ (t : PointerTables). AreInRange places.ports t) (sym value) here)

-- from the tables that pointers were written to come these pointers
pub places_from-tables_of : (n : ℕ) (places : Places) → places.ports ≡ n → places_from n (tables_of places) ≡ places
places_from-tables_of n places ports = ap (λ m. places_from m (tables_of places)) (sym ports)
