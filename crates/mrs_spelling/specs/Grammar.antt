-- The grammar of SimpleMRS. White space belongs to the token before it.
use Rattle.std.specs.Prelude.{ℕ, List, [], ◌∷◌, codes}
use Rattle.mrs_spelling.specs.declared.kinds.Kind.{Kind}
use Rattle.mrs_spelling.specs.declared.kinds.Kind.TheVariants.{Top, Index, PropName, PropValue, PredRun, PredText, Link, Role, Filler, OpensText, Text, EpEnd, High, HandleRel, Low, Left, VariableRel, Right}
use Rattle.mrs_spelling.specs.Forms.{Class, white, letter, digit, in_name, in_pred, any, only, other_than, Form, nothing, sign, seq, many, either, token}

-- one or more characters of the class, as many as there are
abbrev pub run : Class → Form
run x = seq (sign x) (many x (sign x))

abbrev pub blanks : Form
blanks = many white (sign white)

-- a terminal, and white space after it
abbrev pub word : List ℕ → Form
word [] = blanks
word (c ∷ cs) = seq (sign (only c)) (word cs)

-- a name as a token, and white space after it
abbrev pub name : Kind → Form
name k = seq (token k (run in_name)) blanks

-- what stands between the quotes of a string, in which a backslash stands before any character
abbrev pub quoted : Form
quoted = many (other_than 34) (either (only 92) (seq (sign (only 92)) (sign any)) (sign (other_than 34)))

-- what stands before the next `>`
abbrev pub linked : Form
linked = many (other_than 62) (sign (other_than 62))

-- name ":" name
abbrev pub property : Form
property = seq (name PropName) (seq (word (codes ":")) (name PropValue))

-- "[" name { property } "]"
abbrev pub properties : Form
properties = seq (word (codes "[")) (seq (run in_name) (seq blanks (seq (many in_name property) (word (codes "]")))))

-- letters and digits, [ properties ]
abbrev pub var : Kind → Form
var k = seq (token k (seq (run letter) (run digit))) (seq blanks (either (only 91) properties nothing))

-- a string
abbrev pub text : Form
text = seq (token OpensText (sign (only 34))) (seq (token Text quoted) (word (codes "\"")))

-- name ":" ( string | var )
abbrev pub role : Form
role = seq (name Role) (seq (word (codes ":")) (either (only 34) text (var Filler)))

-- a string, or a run
abbrev pub pred : Form
pred = either (only 34) (seq (sign (only 34)) (seq (token PredText quoted) (sign (only 34)))) (token PredRun (run in_pred))

-- [ "<" up to the next ">" ]
abbrev pub link : Form
link = either (only 60) (seq (sign (only 60)) (seq (token Link linked) (sign (only 62)))) nothing

-- "[" pred [ lnk ] { role } "]"
abbrev pub ep : Form
ep = seq (word (codes "[")) (seq pred (seq link (seq blanks (seq (many in_name role) (seq (token EpEnd (sign (only 93))) blanks)))))

-- var name var; white space stands after the name, which would go on with the letters of the variable
abbrev pub constraint : Kind → Kind → Kind → Form
constraint left rel right = seq (var left) (seq (token rel (run in_name)) (seq (run white) (var right)))

-- ":" "<" { constraint } ">"
abbrev pub constraints : Kind → Kind → Kind → Form
constraints left rel right = seq (word (codes ":")) (seq (word (codes "<")) (seq (many letter (constraint left rel right)) (word (codes ">"))))

-- [ lnk ] [ string ], which are passed over
abbrev pub passed_over : Form
passed_over = seq (either (only 60) (seq (sign (only 60)) (seq linked (word (codes ">")))) nothing) (either (only 34) (seq (sign (only 34)) (seq quoted (word (codes "\"")))) nothing)

-- "[" [ lnk ] [ string ] ( "TOP" | "LTOP" ) ":" var "INDEX" ":" var
abbrev pub beginning : Form
beginning = seq (word (codes "[")) (seq passed_over (seq (either (only 76) (word (codes "LTOP")) (word (codes "TOP"))) (seq (word (codes ":")) (seq (var Top)
    (seq (word (codes "INDEX")) (seq (word (codes ":")) (var Index)))))))

-- "RELS" ":" "<" { ep } ">"
abbrev pub relations : Form
relations = seq (word (codes "RELS")) (seq (word (codes ":")) (seq (word (codes "<")) (seq (many (only 91) ep) (word (codes ">")))))

-- [ "HCONS" ":" "<" { cons } ">" ] [ "ICONS" ":" "<" { cons } ">" ] "]"
abbrev pub ending : Form
ending = seq (either (only 72) (seq (word (codes "HCONS")) (constraints High HandleRel Low)) nothing)
    (seq (either (only 73) (seq (word (codes "ICONS")) (constraints Left VariableRel Right)) nothing) (word (codes "]")))

abbrev pub mrs : Form
mrs = seq beginning (seq relations ending)
