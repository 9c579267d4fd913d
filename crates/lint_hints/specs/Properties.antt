-- Unicode properties that pest has and the front end has not.
use Rattle.std.specs.Prelude.{ℕ, List, [], ◌∷◌, Bool, codes}
use Rattle.base_language.specs.Language.Builtins.{is_one_of}
use Rattle.base_language.specs.Language.Text.{Text}

unfoldable pub pest_properties : List Text
pest_properties =
    codes "EMOJI" ∷ codes "EMOJI_COMPONENT" ∷ codes "EMOJI_MODIFIER" ∷ codes "EMOJI_MODIFIER_BASE" ∷
    codes "EMOJI_PRESENTATION" ∷ codes "EXTENDED_PICTOGRAPHIC" ∷ codes "GRAPHEME_LINK" ∷
    codes "IDS_BINARY_OPERATOR" ∷ codes "IDS_TRINARY_OPERATOR" ∷ codes "LOGICAL_ORDER_EXCEPTION" ∷
    codes "OTHER_ALPHABETIC" ∷ codes "OTHER_DEFAULT_IGNORABLE_CODE_POINT" ∷ codes "OTHER_GRAPHEME_EXTEND" ∷
    codes "OTHER_ID_CONTINUE" ∷ codes "OTHER_ID_START" ∷ codes "OTHER_LOWERCASE" ∷ codes "OTHER_MATH" ∷
    codes "OTHER_UPPERCASE" ∷ codes "PREPENDED_CONCATENATION_MARK" ∷ codes "ADLAM" ∷ codes "AHOM" ∷
    codes "ANATOLIAN_HIEROGLYPHS" ∷ codes "AVESTAN" ∷ codes "BALINESE" ∷ codes "BAMUM" ∷
    codes "BASSA_VAH" ∷ codes "BATAK" ∷ codes "BHAIKSUKI" ∷ codes "BRAHMI" ∷ codes "BUGINESE" ∷
    codes "BUHID" ∷ codes "CANADIAN_ABORIGINAL" ∷ codes "CARIAN" ∷ codes "CAUCASIAN_ALBANIAN" ∷
    codes "CHAKMA" ∷ codes "CHAM" ∷ codes "CHORASMIAN" ∷ codes "COMMON" ∷ codes "CUNEIFORM" ∷
    codes "CYPRIOT" ∷ codes "CYPRO_MINOAN" ∷ codes "DESERET" ∷ codes "DIVES_AKURU" ∷ codes "DOGRA" ∷
    codes "DUPLOYAN" ∷ codes "EGYPTIAN_HIEROGLYPHS" ∷ codes "ELBASAN" ∷ codes "ELYMAIC" ∷
    codes "GLAGOLITIC" ∷ codes "GRANTHA" ∷ codes "GUNJALA_GONDI" ∷ codes "HANIFI_ROHINGYA" ∷
    codes "HANUNOO" ∷ codes "HATRAN" ∷ codes "IMPERIAL_ARAMAIC" ∷ codes "INHERITED" ∷
    codes "INSCRIPTIONAL_PAHLAVI" ∷ codes "INSCRIPTIONAL_PARTHIAN" ∷ codes "JAVANESE" ∷ codes "KAITHI" ∷
    codes "KAWI" ∷ codes "KAYAH_LI" ∷ codes "KHAROSHTHI" ∷ codes "KHITAN_SMALL_SCRIPT" ∷ codes "KHOJKI" ∷
    codes "KHUDAWADI" ∷ codes "LEPCHA" ∷ codes "LIMBU" ∷ codes "LINEAR_A" ∷ codes "LINEAR_B" ∷
    codes "LISU" ∷ codes "LYCIAN" ∷ codes "LYDIAN" ∷ codes "MAHAJANI" ∷ codes "MAKASAR" ∷ codes "MANDAIC" ∷
    codes "MANICHAEAN" ∷ codes "MARCHEN" ∷ codes "MASARAM_GONDI" ∷ codes "MEDEFAIDRIN" ∷
    codes "MEETEI_MAYEK" ∷ codes "MENDE_KIKAKUI" ∷ codes "MEROITIC_CURSIVE" ∷
    codes "MEROITIC_HIEROGLYPHS" ∷ codes "MIAO" ∷ codes "MODI" ∷ codes "MRO" ∷ codes "MULTANI" ∷
    codes "NABATAEAN" ∷ codes "NAG_MUNDARI" ∷ codes "NANDINAGARI" ∷ codes "NEW_TAI_LUE" ∷ codes "NEWA" ∷
    codes "NKO" ∷ codes "NUSHU" ∷ codes "NYIAKENG_PUACHUE_HMONG" ∷ codes "OL_CHIKI" ∷
    codes "OLD_HUNGARIAN" ∷ codes "OLD_ITALIC" ∷ codes "OLD_NORTH_ARABIAN" ∷ codes "OLD_PERMIC" ∷
    codes "OLD_PERSIAN" ∷ codes "OLD_SOGDIAN" ∷ codes "OLD_SOUTH_ARABIAN" ∷ codes "OLD_TURKIC" ∷
    codes "OLD_UYGHUR" ∷ codes "OSAGE" ∷ codes "OSMANYA" ∷ codes "PAHAWH_HMONG" ∷ codes "PALMYRENE" ∷
    codes "PAU_CIN_HAU" ∷ codes "PHAGS_PA" ∷ codes "PHOENICIAN" ∷ codes "PSALTER_PAHLAVI" ∷
    codes "REJANG" ∷ codes "SAMARITAN" ∷ codes "SAURASHTRA" ∷ codes "SHARADA" ∷ codes "SHAVIAN" ∷
    codes "SIDDHAM" ∷ codes "SIGNWRITING" ∷ codes "SOGDIAN" ∷ codes "SORA_SOMPENG" ∷ codes "SOYOMBO" ∷
    codes "SUNDANESE" ∷ codes "SYLOTI_NAGRI" ∷ codes "TAGALOG" ∷ codes "TAGBANWA" ∷ codes "TAI_LE" ∷
    codes "TAI_THAM" ∷ codes "TAI_VIET" ∷ codes "TAKRI" ∷ codes "TANGSA" ∷ codes "TANGUT" ∷
    codes "TIFINAGH" ∷ codes "TIRHUTA" ∷ codes "TOTO" ∷ codes "UGARITIC" ∷ codes "VAI" ∷ codes "VITHKUQI" ∷
    codes "WANCHO" ∷ codes "WARANG_CITI" ∷ codes "YEZIDI" ∷ codes "ZANABAZAR_SQUARE" ∷ []

abbrev pub is_pest_property : Text → Bool
is_pest_property name = is_one_of pest_properties name

abbrev pub pest_property_text : List ℕ
pest_property_text =
    codes "pest has this Unicode property, and this front end does not: in pest the name is right"
