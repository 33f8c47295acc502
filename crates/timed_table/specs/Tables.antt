-- What a call leaves of a table.
use Rattle.std.specs.Prelude.{◌≡◌, List}
use Rattle.timed_table.specs.declared.entry.Entry.{Entry}
use Rattle.timed_table.specs.declared.lent.TimedTable.{TimedTable}

-- the entries are as stated, those beyond are as before, and all lie in the memory that was lent
pub record Kept {K V : Type 0} (before after : TimedTable K V) (entries : List (Entry K V)) : Type 0 where
  pub table : after.entries.now ≡ entries
  pub beyond : after.beyond.now ≡ before.beyond.now
  pub table_lender : after.entries.ghost_name ≡ before.entries.ghost_name
  pub beyond_lender : after.beyond.ghost_name ≡ before.beyond.ghost_name
