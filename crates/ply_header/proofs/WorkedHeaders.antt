-- Headers of scanner files, and what is taken of them, by computation on the definitions: those of the form, texts that are no comments, other forms,
-- and files that end too early.
-- Assumes nothing.
use Rattle.std.specs.Prelude.{Option, Some, None}
use mathlib.Core.List.{List, ◌++◌}
use mathlib.Core.Path.{◌≡◌, refl}
use Prim.Native.Nat.{ℕ}
use Prim.Native.String.{String}
use Rattle.ply_header.specs.declared.Scalar.TheVariants.{Float, Double, Int}
use Rattle.ply_header.specs.declared.Form.{Form}
use Rattle.ply_header.specs.Text.{bytes, and_then, and_read, behind, comment, past, past_comments, line, digit, count_from, count, counted}
use Rattle.ply_header.specs.Header.{scalar, axis, header}

-- What a header is computed by, all of it unfolded.
unfoldable pub header-parts : Unit {0}
unfolding and_then and_read digit behind comment past past_comments line count_from count counted scalar axis header
header-parts = tt

-- ---- a header whose first lines differ
abbrev first : String
first = "ply\n"

abbrev format : String
format = "format binary_little_endian 1.0\n"

abbrev vertex : String
vertex = "element vertex 1\n"

abbrev x : String
x = "property float x\n"

abbrev file : (first format vertex x : String) → List ℕ
file a b c d = bytes a ++ bytes b ++ bytes c ++ bytes d ++ bytes "property double y\nproperty int z\nelement face 1\nproperty list uchar int vertex_indices\nend_header\n"

-- a header whose last lines differ
abbrev closed : (list : String) → List ℕ
closed list = bytes first ++ bytes format ++ bytes vertex ++ bytes x ++ bytes "property double y\nproperty int z\nelement face 1\n" ++ bytes list ++ bytes "end_header\n"

-- one vertex of a float, a double and an int, and one face; a count and the place of the body differ
abbrev taken : (vertices body : ℕ) → Option Form
taken n i = Some (record { x = Float; y = Double; z = Int; vertices = n; faces = 1; body = i })

-- ---- taken
-- no comment
pub plain : header (file first format vertex x) ≡ taken 1 168
unfolding header-parts
plain = refl

-- comments of both kinds
pub comments : header (file "ply\ncomment\ncomment \n" "format binary_little_endian 1.0\ncomment made by hand\n" "element vertex 1\ncomment comment\n" "property float x\ncomment\n") ≡ taken 1 230
unfolding header-parts
comments = refl

-- a comment before every line but the first; behind the last line the body begins
pub everywhere : header (bytes "ply\ncomment\nformat binary_little_endian 1.0\ncomment a\nelement vertex 03\ncomment\nproperty int x\ncomment b\nproperty int y\ncomment\nproperty double z\ncomment c\nelement face 12\ncomment\nproperty list uchar int vertex_indices\ncomment  \ncomment\nend_header\ncomment\n") ≡ Some (record { x = Int; y = Int; z = Double; vertices = 3; faces = 12; body = 248 })
unfolding header-parts
everywhere = refl

-- a comment holds anything: another line, a carriage return, a tab
pub anything : header (file "ply\ncomment end_header\r\ncomment \ta\n" format vertex x) ≡ taken 1 199
unfolding header-parts
anything = refl

-- zeros in front
pub zeros : header (file first format "element vertex 007\n" x) ≡ taken 7 170
unfolding header-parts
zeros = refl

-- no vertices
pub none : header (file first format "element vertex 0\n" x) ≡ taken 0 168
unfolding header-parts
none = refl

-- a count above 2 ^ 64
pub large : header (file first format "element vertex 99999999999999999999\n" x) ≡ taken 99999999999999999999 187
unfolding header-parts
large = refl

-- ---- no comments
-- a comment before the first line
pub first-line : header (file "comment\nply\n" format vertex x) ≡ None
unfolding header-parts
first-line = refl

-- a longer word
pub commentary : header (file "ply\ncommentary\n" format vertex x) ≡ None
unfolding header-parts
commentary = refl

-- a tab behind the word
pub comment-tab : header (file "ply\ncomment\tby hand\n" format vertex x) ≡ None
unfolding header-parts
comment-tab = refl

-- a carriage return behind it
pub comment-return : header (file "ply\ncomment\r\n" format vertex x) ≡ None
unfolding header-parts
comment-return = refl

-- a space before it
pub indented : header (file "ply\n comment\n" format vertex x) ≡ None
unfolding header-parts
indented = refl

-- ---- other forms
-- a carriage return
pub carriage-return : header (file first "format binary_little_endian 1.0\r\n" vertex x) ≡ None
unfolding header-parts
carriage-return = refl

-- a tab
pub tab : header (file first format "element\tvertex 1\n" x) ≡ None
unfolding header-parts
tab = refl

-- two spaces
pub two-spaces : header (file first format "element  vertex 1\n" x) ≡ None
unfolding header-parts
two-spaces = refl

-- a trailing space
pub trailing-space : header (file first "format binary_little_endian 1.0 \n" vertex x) ≡ None
unfolding header-parts
trailing-space = refl

-- a trailing space behind a count
pub trailing-space-behind-count : header (file first format "element vertex 1 \n" x) ≡ None
unfolding header-parts
trailing-space-behind-count = refl

-- an empty line
pub empty-line : header (file "ply\n\n" format vertex x) ≡ None
unfolding header-parts
empty-line = refl

-- numbers as text
pub text-format : header (file first "format ascii 1.0\n" vertex x) ≡ None
unfolding header-parts
text-format = refl

-- the other byte order
pub big_endian : header (file first "format binary_big_endian 1.0\n" vertex x) ≡ None
unfolding header-parts
big_endian = refl

-- another version
pub version : header (file first "format binary_little_endian 1.1\n" vertex x) ≡ None
unfolding header-parts
version = refl

-- no digits
pub no-digits : header (file first format "element vertex \n" x) ≡ None
unfolding header-parts
no-digits = refl

-- a sign
pub plus : header (file first format "element vertex +1\n" x) ≡ None
unfolding header-parts
plus = refl

-- a minus sign
pub minus : header (file first format "element vertex -1\n" x) ≡ None
unfolding header-parts
minus = refl

-- the characters next to the digits
pub slash : header (file first format "element vertex /\n" x) ≡ None
unfolding header-parts
slash = refl

pub colon : header (file first format "element vertex :\n" x) ≡ None
unfolding header-parts
colon = refl

pub slash-behind : header (file first format "element vertex 1/\n" x) ≡ None
unfolding header-parts
slash-behind = refl

pub colon-behind : header (file first format "element vertex 1:\n" x) ≡ None
unfolding header-parts
colon-behind = refl

-- a letter in a count
pub hexadecimal : header (file first format "element vertex 0x1\n" x) ≡ None
unfolding header-parts
hexadecimal = refl

-- a scalar type by its other name
pub float32 : header (file first format vertex "property float32 x\n") ≡ None
unfolding header-parts
float32 = refl

pub float64 : header (file first format vertex "property float64 x\n") ≡ None
unfolding header-parts
float64 = refl

pub int32 : header (file first format vertex "property int32 x\n") ≡ None
unfolding header-parts
int32 = refl

-- other scalar types
pub char : header (file first format vertex "property char x\n") ≡ None
unfolding header-parts
char = refl

pub uchar : header (file first format vertex "property uchar x\n") ≡ None
unfolding header-parts
uchar = refl

pub int8 : header (file first format vertex "property int8 x\n") ≡ None
unfolding header-parts
int8 = refl

pub uint8 : header (file first format vertex "property uint8 x\n") ≡ None
unfolding header-parts
uint8 = refl

pub short : header (file first format vertex "property short x\n") ≡ None
unfolding header-parts
short = refl

pub ushort : header (file first format vertex "property ushort x\n") ≡ None
unfolding header-parts
ushort = refl

pub uint : header (file first format vertex "property uint x\n") ≡ None
unfolding header-parts
uint = refl

-- another name
pub capital : header (file first format vertex "property float X\n") ≡ None
unfolding header-parts
capital = refl

-- y in the place of x
pub exchanged : header (file first format vertex "property float y\n") ≡ None
unfolding header-parts
exchanged = refl

-- another property
pub another-property : header (file first format vertex "property float w\nproperty float x\n") ≡ None
unfolding header-parts
another-property = refl

-- the list of a face with types by their other names, and with its other name
pub list-types : header (closed "property list uint8 int32 vertex_indices\n") ≡ None
unfolding header-parts
list-types = refl

pub list-name : header (closed "property list uchar int vertex_index\n") ≡ None
unfolding header-parts
list-name = refl

-- ---- the file ends
-- before the first character
pub empty : header (bytes "") ≡ None
unfolding header-parts
empty = refl

-- in a line
pub cut : header (bytes "ply\nformat binary_li") ≡ None
unfolding header-parts
cut = refl

-- in a comment
pub cut-comment : header (bytes "ply\ncomment made by") ≡ None
unfolding header-parts
cut-comment = refl

-- behind the word `comment`
pub cut_word : header (bytes "ply\ncomment") ≡ None
unfolding header-parts
cut_word = refl

-- behind a digit
pub cut-count : header (bytes "ply\nformat binary_little_endian 1.0\nelement vertex 1") ≡ None
unfolding header-parts
cut-count = refl

-- before the last line feed
pub cut-last : header (bytes "ply\nformat binary_little_endian 1.0\nelement vertex 1\nproperty float x\nproperty double y\nproperty int z\nelement face 1\nproperty list uchar int vertex_indices\nend_header") ≡ None
unfolding header-parts
cut-last = refl
