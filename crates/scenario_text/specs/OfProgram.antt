-- The checks of a document that need its program, in their order.
use Rattle.std.specs.Prelude.{ℕ, List, [], ◌∷◌, length, position, slice_get, bytes_eq, nat_eq, Option, Some, None, option_map, option_and_then, if◌then◌else◌}
use Rattle.toml.specs.Data.{Members}
use Rattle.iter_syntax.specs.declared.tree.Program.{Program}
use Rattle.iter_check.specs.declared.kind.Fault.{Fault}
use Rattle.iter_check.specs.FaultList.{fault_list}
use Rattle.iter_check.specs.Layout.{text}
use Rattle.range_table.specs.declared.region.RegionSpan.{RegionSpan}
use Rattle.range_table.specs.declared.fault.TableFault.{TableFault}
use Rattle.range_table.specs.declared.fault.TableFault.TheVariants as table
use Rattle.range_table.specs.Table.{table_fault}
use Rattle.scenario_text.specs.declared.fault.DocFault.{DocFault}
use Rattle.scenario_text.specs.declared.fault.DocFault.TheVariants as fault
use Rattle.scenario_text.specs.Form.{first_there, count, each}
use Rattle.scenario_text.specs.Events.{events_fault}
use Rattle.scenario_text.specs.Values.{nodes_of, events_of, requests_of, regions_of, args_of, iter_name_of}
use Rattle.scenario_text.specs.Regions.{spans}

-- the program is not accepted
abbrev pub check_fault : Fault → DocFault
check_fault f = fault.Check f.kind f.place

abbrev pub program_fault : Program → Option DocFault
program_fault p = option_map check_fault (slice_get (fault_list p) 0)

-- a fault of a table of regions is that of the region at this place: of an overlap, the later one
abbrev pub place_of : TableFault → ℕ
place_of table.TooMany = 0
place_of (table.Empty i) = i
place_of (table.Range i) = i
place_of (table.Overlap j i) = i

abbrev pub spans_fault : List RegionSpan → Option DocFault
spans_fault regions = option_map (λ f. fault.Region (place_of f) f) (table_fault regions)

-- the number of the iterator of a name, and how many arguments the iterator of a number has
abbrev pub iter_index : Program → List ℕ → Option ℕ
iter_index p name = position (λ it. bytes_eq (text it.name) name) p.iters

abbrev pub arg_count : Program → ℕ → Option ℕ
arg_count p iter = option_map (λ it. length it.args) (slice_get p.iters iter)

-- a request of so many arguments, where its iterator has so many, or where there is none
abbrev pub args_fault : ℕ → ℕ → Option ℕ → Option DocFault
args_fault i given None = Some (fault.Iter i)
args_fault i given (Some wanted) = if nat_eq given wanted then None else Some (fault.Args i)

abbrev pub iter_fault : Program → ℕ → Members → Option DocFault
iter_fault p i ms = args_fault i (count (args_of ms)) (option_and_then (arg_count p) (iter_index p (iter_name_of ms)))

-- the checks, of which the first that fails decides
abbrev pub rest_fault : Program → Members → Option DocFault
rest_fault p ms = first_there (
    program_fault p
    ∷ spans_fault (spans (regions_of ms))
    ∷ each (iter_fault p) 0 (requests_of ms)
    ∷ events_fault (count (requests_of ms)) (nodes_of ms) 0 (events_of ms)
    ∷ [])
