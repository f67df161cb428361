-- What holds of each table: its list makes a table, and its order is that of the whole list.
use Rattle.std.specs.Prelude.{length}
use Rattle.range_table.specs.declared.table.Table.TheInside.{Inside}
use Rattle.range_table.specs.Table.{IsTable}
use Rattle.range_table.specs.Order.{IsOrder}

pub record IsSearchable (t : Inside) : Type 0 where
  pub table : IsTable t.list
  pub order : IsOrder t.list t.order.starts.items t.order.places.items (length t.list)
