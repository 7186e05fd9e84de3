-- The report of `check`: how many types, features and instances a grammar has.
use Rattle.std.specs.Prelude.{ℕ, ◌-◌, List, ◌∷◌, [], ◌++◌, length, filter, codes}
use Rattle.std.specs.Fmt.{decimal}
use Rattle.tdl_reader.specs.declared.Status.{Status}
use Rattle.tdl_reader.specs.declared.Status.TheVariants.{Entry, LexRule, Rule, Root}
use Rattle.type_hierarchy.specs.Table.{completed_count}
use Rattle.grammar_files.specs.Statements.{is_status}
use Rattle.constraint_expand.specs.declared.books.Book.{Book}
use Rattle.constraint_expand.specs.Books.{InstanceMap}
use Rattle.book_shapes.specs.Shapes.{instances_of}

-- how many instances have this status
abbrev pub count_of : Status → List InstanceMap → ℕ
count_of status is = length (filter (λ i. is_status status i.status) is)

-- `types W added A features F`
abbrev pub types_text : ℕ → ℕ → ℕ → List ℕ
types_text w a f = codes "types " ++ decimal w ++ codes " added " ++ decimal a ++ codes " features " ++ decimal f

-- ` entries E lex-rules X rules Y roots Z`
abbrev pub instances_text : ℕ → ℕ → ℕ → ℕ → List ℕ
instances_text e x y z = codes " entries " ++ decimal e ++ codes " lex-rules " ++ decimal x ++ codes " rules " ++ decimal y ++ codes " roots " ++ decimal z

-- both, as one line
abbrev pub check_text : ℕ → ℕ → ℕ → ℕ → ℕ → ℕ → ℕ → List ℕ
check_text w a f e x y z = (types_text w a f ++ instances_text e x y z) ++ 10 ∷ []

-- Written types are counted with the top and string types.
abbrev pub check_line : Book → List ℕ
check_line b =
    check_text b.system.types.written (completed_count b.system.types - b.system.types.written) (length b.feats.items) (count_of Entry (instances_of b)) (count_of LexRule (instances_of b))
    (count_of Rule (instances_of b)) (count_of Root (instances_of b))
