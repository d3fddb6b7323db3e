-- The tokens of a text: W3C, Extensible Markup Language (XML) 1.0, for names of ASCII, and without document types,
-- processing instructions, and sections of `CDATA`. This project's own: bytes above 127 stand for themselves, ends of
-- lines and blanks stay as they are, and `]]>` may stand in a text.
use Rattle.std.specs.Prelude.{◌≡◌, ℕ, zero, suc, ◌+◌, ◌*◌, ◌-◌, List, [], ◌∷◌, ◌++◌, length, take, drop, Bool, true, false, not, ◌&&◌, ◌||◌, ◌==◌, if◌then◌else◌, nat_le, nat_lt, min, codes, bytes_eq, position, Option, Some, None, option_and_then}
use Rattle.std.specs.Char.{is_ascii_alphabetic, is_ascii_digit}
use Rattle.std.specs.List.{prefix_len, list_any, list_all}
use Rattle.vpg_xml.specs.Elements.{Attribute, Tag, Placed, opening, closing, character}

infixl 10 ◌>>=◌
abbrev pub ◌>>=◌ : {A B : Type 0} → Option A → (A → Option B) → Option B
o >>= f = option_and_then f o

-- a space, a tab, a carriage return or a line feed
abbrev pub is_blank : ℕ → Bool
is_blank b = b == 32 || (b == 9 || (b == 13 || b == 10))

-- a byte that may stand in a document: no control character but a blank
abbrev pub is_allowed : ℕ → Bool
is_allowed b = nat_le 32 b || is_blank b

-- a letter, `_` or `:`
abbrev pub is_name_start : ℕ → Bool
is_name_start b = is_ascii_alphabetic b || (b == 95 || b == 58)

-- a letter, a digit, `_`, `:`, `-` or `.`
abbrev pub is_name_byte : ℕ → Bool
is_name_byte b = is_name_start b || (is_ascii_digit b || (b == 45 || b == 46))

-- whether a name begins here
abbrev pub starts_name : List ℕ → Bool
starts_name [] = false
starts_name (b ∷ text) = is_name_start b

-- whether a blank comes next
abbrev pub starts_blank : List ℕ → Bool
starts_blank [] = false
starts_blank (b ∷ text) = is_blank b

-- the text after the blanks at its front
abbrev pub after_gap : List ℕ → List ℕ
after_gap text = drop (prefix_len is_blank text) text

-- the name at the front
abbrev pub name_in : List ℕ → List ℕ
name_in text = take (prefix_len is_name_byte text) text

-- the text after the name at its front
abbrev pub after_name : List ℕ → List ℕ
after_name text = drop (prefix_len is_name_byte text) text

-- the text after this byte, if it comes next
abbrev pub after_sign : ℕ → List ℕ → Option (List ℕ)
after_sign sign [] = None
after_sign sign (b ∷ text) = if b == sign then Some text else None

-- where the rest of a text begins whose length is this
abbrev pub place_of : ℕ → List ℕ → ℕ
place_of size rest = size - length rest

-- ---- characters

-- a character by its number, of ASCII
abbrev pub character_numbered : ℕ → Option ℕ
character_numbered n = if nat_lt n 128 && is_allowed n then Some n else None

-- whether bytes are digits, one or more
abbrev pub are_digits : List ℕ → Bool
are_digits [] = false
are_digits (b ∷ text) = is_ascii_digit b && list_all is_ascii_digit text

-- the number that decimal digits write after this one, where 1000 stands for all that are greater
abbrev pub number_after : ℕ → List ℕ → ℕ
number_after n [] = n
number_after n (b ∷ text) = number_after (min (n * 10 + (b - 48)) 1000) text

-- the character by its number in decimal
abbrev pub numbered_in : List ℕ → Option ℕ
numbered_in text = if are_digits text then character_numbered (number_after 0 text) else None

-- the character that stands between `&` and `;`: one of the five with a name, or one by its number after `#`
abbrev pub character_of : List ℕ → Option ℕ
character_of name =
    if bytes_eq name (codes "lt") then Some 60
    else (if bytes_eq name (codes "gt") then Some 62
    else (if bytes_eq name (codes "amp") then Some 38
    else (if bytes_eq name (codes "quot") then Some 34
    else (if bytes_eq name (codes "apos") then Some 39
    else after_sign 35 name >>= numbered_in))))

-- the character of a reference, after its `&`, and the text after it
abbrev pub reference_at : List ℕ → Option (ℕ × List ℕ)
reference_at text =
    position (λ b. b == 59) text >>= λ end. character_of (take end text) >>= λ c. Some (c, drop (end + 1) text)

-- a byte that stands for itself, where this byte ends the text
abbrev pub is_plain : ℕ → ℕ → Bool
is_plain end b = is_allowed b && not (b == 60 || (b == 38 || b == end))

-- the character at the front, and the text after it
abbrev pub character_at : ℕ → List ℕ → Option (ℕ × List ℕ)
character_at end [] = None
character_at end (b ∷ text) =
    if b == 38 then reference_at text else (if is_plain end b then Some (b, text) else None)

-- ---- tags

-- The characters up to this quote, after these, and the text after the quote. The number bounds the turns: the length
-- of the text is always enough.
unfoldable pub value_with : ℕ → ℕ → List ℕ → List ℕ → Option (List ℕ × List ℕ)
value_with zero quote said text = None
value_with (suc n) quote said [] = None
value_with (suc n) quote said (b ∷ text) =
    if b == quote then Some (said, text)
    else character_at quote (b ∷ text) >>= λ c. value_with n quote (said ++ c.0 ∷ []) c.1

-- what a value in quotes says, `"` or `'`, and the text after it
abbrev pub quoted_at : List ℕ → Option (List ℕ × List ℕ)
quoted_at [] = None
quoted_at (quote ∷ text) =
    if quote == 34 || quote == 39 then value_with (length text) quote [] text else None

-- the attribute after blanks, and the text after it: a name, `=`, and a value in quotes, with blanks around `=`
abbrev pub attribute_at : ℕ → List ℕ → Option (Attribute × List ℕ)
attribute_at size text =
    let from = after_gap text in
    after_sign 61 (after_gap (after_name from)) >>= λ behind. quoted_at (after_gap behind) >>= λ v.
    Some (record { at = place_of size from; name = name_in from; value = v.0 }, v.1)

-- whether blanks and a name come next
abbrev pub has_attribute : List ℕ → Bool
has_attribute text = starts_blank text && starts_name (after_gap text)

-- there are less than 64 attributes, and none has this name
abbrev pub is_new : List Attribute → List ℕ → Bool
is_new attributes name =
    nat_lt (length attributes) 64 && not (list_any (λ a. bytes_eq a.name name) attributes)

-- this, unless the attribute is not new
abbrev pub if_new : {A : Type 0} → Bool → Option A → Option A
if_new true x = x
if_new false x = None

-- All attributes that come next, after these, and the text after them. The number bounds the turns.
unfoldable pub attributes_with : ℕ → ℕ → List Attribute → List ℕ → Option (List Attribute × List ℕ)
attributes_with zero size before text = Some (before, text)
attributes_with (suc n) size before text =
    if has_attribute text
    then (attribute_at size text >>= λ a.
    if_new (is_new before a.0.name) (attributes_with n size (before ++ a.0 ∷ []) a.1))
    else Some (before, text)

-- the attributes at the front, 64 at most, no two of one name, and the text after them
abbrev pub attributes_at : ℕ → List ℕ → Option (List Attribute × List ℕ)
attributes_at size text = attributes_with (length text) size [] text

-- the name and the attributes of a start tag, after its `<`, and the text after them
abbrev pub tag_at : ℕ → List ℕ → Option (Tag × List ℕ)
tag_at size text =
    if starts_name text
    then (attributes_at size (after_name text) >>= λ a. Some (record { name = name_in text; attributes = a.0 }, a.1))
    else None

-- how a start tag ends: whether its element is empty, as `/` says, and the text after `>`
abbrev pub ending_at : List ℕ → Option (Bool × List ℕ)
ending_at [] = None
ending_at (b ∷ text) =
    if b == 47 then (after_sign 62 text >>= λ rest. Some (true, rest))
    else (if b == 62 then Some (false, text) else None)

-- ---- tokens

-- a token: a character, a comment, a start tag and whether its element is empty, an end tag
pub data Token : Type 0 where
  a_character : ℕ → Token
  a_comment : Token
  a_start : Tag → Bool → Token
  an_end : List ℕ → Token

-- the text after a comment's end. Two dashes end a comment, and `>` has to follow.
abbrev pub comment_end : List ℕ → Option (List ℕ)
comment_end [] = None
comment_end (b ∷ []) = None
comment_end (b ∷ c ∷ text) =
    if b == 45 && c == 45 then after_sign 62 text
    else (if is_allowed b then comment_end (c ∷ text) else None)

-- a comment, after its `<!`
abbrev pub comment_at : List ℕ → Option (Token × List ℕ)
comment_at text =
    after_sign 45 text >>= λ behind. after_sign 45 behind >>= λ inside. comment_end inside >>= λ rest.
    Some (a_comment, rest)

-- an end tag, after its `</`
abbrev pub end_at : List ℕ → Option (Token × List ℕ)
end_at text =
    if starts_name text
    then (after_sign 62 (after_gap (after_name text)) >>= λ rest. Some (an_end (name_in text), rest))
    else None

-- a start tag, or the tag of an empty element, after its `<`
abbrev pub start_at : ℕ → List ℕ → Option (Token × List ℕ)
start_at size text =
    tag_at size text >>= λ t. ending_at (after_gap t.1) >>= λ e. Some (a_start t.0 e.0, e.1)

-- what begins with `<`
abbrev pub markup_at : ℕ → List ℕ → Option (Token × List ℕ)
markup_at size [] = None
markup_at size (b ∷ text) =
    if b == 33 then comment_at text else (if b == 47 then end_at text else start_at size (b ∷ text))

-- the token at the front of a text that ends a text of this size, and the text after the token
abbrev pub token_at : ℕ → List ℕ → Option (Token × List ℕ)
token_at size [] = None
token_at size (b ∷ text) =
    if b == 60 then markup_at size text
    else character_at 60 (b ∷ text) >>= λ c. Some (a_character c.0, c.1)

-- The pieces of a token that begins here. A comment has none. An empty element's tag is a start tag and an end tag.
abbrev pub pieces_of : ℕ → Token → List Placed
pieces_of at (a_character c) = record { at = at; piece = character c } ∷ []
pieces_of at a_comment = []
pieces_of at (a_start tag false) = record { at = at; piece = opening tag } ∷ []
pieces_of at (a_start tag true) =
    record { at = at; piece = opening tag } ∷ record { at = at; piece = closing tag.name } ∷ []
pieces_of at (an_end name) = record { at = at; piece = closing name } ∷ []

-- the text begins with tokens of these pieces, and this text comes after them
pub data HasPieces (size : ℕ) : List ℕ → List Placed → List ℕ → Type 0 where
  no_token : {text : List ℕ} → HasPieces size text [] text
  one_token : {text behind rest : List ℕ} {token : Token} {pieces : List Placed} →
      token_at size text ≡ Some (token, behind) → HasPieces size behind pieces rest →
      HasPieces size text (pieces_of (place_of size text) token ++ pieces) rest

-- ---- the declaration

-- whether the text begins with `<?xml`
abbrev pub is_declared : List ℕ → Bool
is_declared text = bytes_eq (take 5 text) (codes "<?xml")

-- the text after a declaration's attributes, and after `?>`
abbrev pub after_declaration : ℕ → List ℕ → Option (List ℕ)
after_declaration size text =
    attributes_at size (drop 5 text) >>= λ a. after_sign 63 (after_gap a.1) >>= λ behind. after_sign 62 behind

-- the text after its declaration, if it has one: `<?xml`, attributes, `?>`. Which attributes these are is not asked.
abbrev pub body_of : List ℕ → Option (List ℕ)
body_of text = if is_declared text then after_declaration (length text) text else Some text
