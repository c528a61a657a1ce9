-- Meaning: Wrong answers of the calls for names outside ASCII. Each field names an input and an answer that the definition of the call excludes; the
-- comment says which mistake would give that answer.
use Rattle.std.specs.Prelude.{ℕ, ◌≢◌, true, false, List, [], ◌∷◌, replicate, Ok, Err}
use Prim.Native.String.{String}
use Rattle.text.specs.Text.{Text, bytes}
use Rattle.text.specs.Bytes.{slash, upper_a}
use Rattle.characters.specs.Utf8.{encode, encode_all}
use Rattle.refusal.specs.declared.Refusal.TheVariants.{TooLong, Illegal, NoPath}
use Rattle.refusal.specs.Outcome.{path, refused}
use Rattle.path.specs.Calls.{path_new_call, is_end_call, has_prefix_call, prim_element_count_call}
use Rattle.path_derive.specs.Calls.{replace_prefix_call, parent_call, strip_call, ancestors_reply}

-- The bytes of a string in UTF-8.
abbrev utf8 : String → Text
utf8 s = encode_all (bytes s)

-- The path `/` and one character, and a path with these bytes after `/A`.
abbrev named : ℕ → Text
named c = slash ∷ encode c

abbrev after_a : List ℕ → Text
after_a t = slash ∷ upper_a ∷ t

pub record WrongNames : Type 0 where
  -- `new`: names are ASCII; a character may continue a name and not begin it; names of properties or variant sets are ASCII.
  pub ascii_only : path_new_call (utf8 "/Széll_Kálmán_tér") ≢ Err Illegal
  pub not_first : path_new_call (utf8 "/É") ≢ Err Illegal
  pub ascii_property : path_new_call (utf8 "/A.jelző:állás") ≢ Err Illegal
  pub ascii_set : path_new_call (utf8 "/A{idő=p}B") ≢ Err Illegal
  pub ascii_after_selection : path_new_call (utf8 "/A{v=p}É") ≢ Err Illegal
  pub ascii_target : path_new_call (utf8 "/A.r[/É]") ≢ Err Illegal
  -- A variant may have any character of a name.
  pub sel_widened : path_new_call (utf8 "/A{v=é}") ≢ Ok tt
  -- A control or white space is a character like any other: the ends of each range of the list.
  pub control_80 : path_new_call (named 0x80) ≢ Ok tt
  pub control_9_f : path_new_call (named 0x9F) ≢ Ok tt
  pub no_break_space : path_new_call (named 0xA0) ≢ Ok tt
  pub ogham_space : path_new_call (named 0x1680) ≢ Ok tt
  pub en_quad : path_new_call (named 0x2000) ≢ Ok tt
  pub hair_space : path_new_call (named 0x200A) ≢ Ok tt
  pub line_separator : path_new_call (named 0x2028) ≢ Ok tt
  pub paragraph_separator : path_new_call (named 0x2029) ≢ Ok tt
  pub narrow_space : path_new_call (named 0x202F) ≢ Ok tt
  pub mathematical_space : path_new_call (named 0x205F) ≢ Ok tt
  pub ideographic_space : path_new_call (named 0x3000) ≢ Ok tt
  -- The neighbours of the list, an accent that stands alone, a character without width, and the last character of all are refused.
  pub above_control : path_new_call (named 0xA1) ≢ Err Illegal
  pub zero_width_space : path_new_call (named 0x200B) ≢ Err Illegal
  pub accent : path_new_call (named 0x301) ≢ Err Illegal
  pub above_ideographic : path_new_call (named 0x3001) ≢ Err Illegal
  pub below_surrogates : path_new_call (named 0xD7FF) ≢ Err Illegal
  pub above_surrogates : path_new_call (named 0xE000) ≢ Err Illegal
  pub last_character : path_new_call (named 0x10FFFF) ≢ Err Illegal
  -- Malformed UTF-8 is taken: a surrogate; the overlong forms of `/` and of `é`; a number above U+10FFFF; a byte that continues nothing; a
  -- character cut off by the end, by a slash, by another character.
  pub surrogate : path_new_call (after_a (0xED ∷ 0xA0 ∷ 0x80 ∷ [])) ≢ Ok tt
  pub last_surrogate : path_new_call (after_a (0xED ∷ 0xBF ∷ 0xBF ∷ [])) ≢ Ok tt
  pub overlong_slash : path_new_call (after_a (0xC0 ∷ 0xAF ∷ upper_a ∷ [])) ≢ Ok tt
  pub overlong_slash_three : path_new_call (after_a (0xE0 ∷ 0x80 ∷ 0xAF ∷ upper_a ∷ [])) ≢ Ok tt
  pub overlong_letter : path_new_call (after_a (0xE0 ∷ 0x83 ∷ 0xA9 ∷ [])) ≢ Ok tt
  pub overlong_four : path_new_call (after_a (0xF0 ∷ 0x8F ∷ 0xBF ∷ 0xBF ∷ [])) ≢ Ok tt
  pub above_all : path_new_call (after_a (0xF4 ∷ 0x90 ∷ 0x80 ∷ 0x80 ∷ [])) ≢ Ok tt
  pub stray : path_new_call (after_a (0x80 ∷ [])) ≢ Ok tt
  pub no_first_byte : path_new_call (after_a (0xFF ∷ [])) ≢ Ok tt
  pub cut_off : path_new_call (after_a (0xC3 ∷ [])) ≢ Ok tt
  pub cut_by_slash : path_new_call (after_a (0xE2 ∷ 0x82 ∷ slash ∷ upper_a ∷ [])) ≢ Ok tt
  pub cut_by_character : path_new_call (after_a (0xC3 ∷ 0xC3 ∷ 0xA9 ∷ [])) ≢ Ok tt
  -- Question 2 before question 1; the limit counts characters; the limit counts a character of two bytes twice and more.
  pub malformed_first : path_new_call (replicate 256 0xFF) ≢ Err Illegal
  pub limit_of_characters : path_new_call (slash ∷ encode_all (replicate 128 0xE9)) ≢ Ok tt
  pub limit_too_low : path_new_call (slash ∷ encode_all (replicate 127 0xE9)) ≢ Err TooLong
  -- `is_end`: ends are ASCII; a malformed text is an end.
  pub ascii_end : is_end_call (utf8 "/Széll/Kálmán") ≢ Ok false
  pub malformed_end : is_end_call (after_a (0xC3 ∷ [])) ≢ Ok true
  -- `has_prefix`: a character outside ASCII is a boundary.
  pub character_is_boundary : has_prefix_call (utf8 "/Aé") (bytes "/A") ≢ Ok true
  -- `prim_element_count`, `parent`, `ancestors`: a name after a selection does not begin outside ASCII.
  pub name_not_counted : prim_element_count_call (utf8 "/A{v=p}É") ≢ Ok (record { 0 = 1 })
  pub parent_too_short : parent_call (utf8 "/A{v=p}É") 255 ≢ path (bytes "/A")
  pub ancestors_too_few : ancestors_reply (utf8 "/A{v=p}É") 8 ≢ Ok 3
  -- `parent`: one byte of the last character is cut off.
  pub parent_cuts : parent_call (utf8 "/Á/É") 255 ≢ path (slash ∷ 0xC3 ∷ [])
  -- `strip_variant_selections`, `replace_prefix`: no slash before a name that begins outside ASCII.
  pub strip_without_slash : strip_call (utf8 "/A{v=p}É") 255 ≢ path (utf8 "/AÉ")
  pub joined_without_slash : replace_prefix_call (utf8 "/A{v=p}é/b") (bytes "/A{v=p}") (bytes "/C") 255 ≢ path (utf8 "/Cé/b")
  pub joined_no_path : replace_prefix_call (utf8 "/A{v=p}é/b") (bytes "/A{v=p}") (bytes "/C") 255 ≢ refused NoPath
