use Rattle.std.proofs.Common.{◌≡◌, string_bytes}
use Rattle.blocks.specs.Printing.{table_text}
use Rattle.blocks.proofs.print.print_table.Given as goal

abbrev pub invariant-loop-k : goal.invariant-loop-k
invariant-loop-k l = string_bytes l.out ≡ table_text l.table.atoms l.table.guards l.k
