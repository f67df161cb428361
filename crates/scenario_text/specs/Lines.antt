-- What a user reads of a refused document.
use Rattle.std.specs.Prelude.{ℕ, List, ◌++◌, codes, decimal}
use Rattle.iter_syntax.specs.declared.fault.SyntaxFault.{SyntaxFault}
use Rattle.iter_syntax.specs.declared.fault.SyntaxFault.TheVariants as syntax
use Rattle.iter_check.specs.Words.{kind_word}
use Rattle.range_table.specs.declared.fault.TableFault.{TableFault}
use Rattle.range_table.specs.declared.fault.TableFault.TheVariants as table
use Rattle.scenario_text.specs.declared.fault.DocFault.{DocFault}
use Rattle.scenario_text.specs.declared.fault.DocFault.TheVariants as fault

abbrev pub syntax_words : SyntaxFault → List ℕ
syntax_words (syntax.Lex at) = codes "program lex " ++ decimal at
syntax_words (syntax.Deep at) = codes "program deep " ++ decimal at
syntax_words (syntax.Syntax at) = codes "program syntax " ++ decimal at
syntax_words syntax.Memory = codes "memory"

-- of two regions that overlap, the earlier one is named last; too many regions are told as a limit
abbrev pub table_words : ℕ → TableFault → List ℕ
table_words i table.TooMany = codes "document limit region"
table_words i (table.Empty k) = codes "document region " ++ decimal i ++ codes " empty"
table_words i (table.Range k) = codes "document region " ++ decimal i ++ codes " range"
table_words i (table.Overlap j k) = codes "document region " ++ decimal i ++ codes " overlap " ++ decimal j

abbrev pub words_of : DocFault → List ℕ
words_of fault.Toml = codes "document toml"
words_of (fault.Key name) = codes "document key " ++ name
words_of (fault.Missing name) = codes "document missing " ++ name
words_of (fault.Value name) = codes "document value " ++ name
words_of (fault.Hex i) = codes "document hex " ++ decimal i
words_of (fault.Limit name) = codes "document limit " ++ name
words_of (fault.Program f) = syntax_words f
words_of (fault.Check kind place) = codes "program " ++ kind_word kind ++ codes " " ++ decimal place
words_of (fault.Region i f) = table_words i f
words_of (fault.Iter i) = codes "document iter " ++ decimal i
words_of (fault.Args i) = codes "document args " ++ decimal i
words_of (fault.Event i) = codes "document event " ++ decimal i
words_of fault.Memory = codes "memory"
